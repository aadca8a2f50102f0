-- Reading the line is the inverse of printing it: `ask` takes exactly the lines of three numbers in range.
-- Assumes nothing.
use Rattle.std.specs.Prelude.{◌≡◌, ◌&&◌, ◌∷◌, ◌++◌, ◌^◌, ◌≤◌, ◌<◌}
use Rattle.laws.proofs.Prelude.{refl, sym, ap, ◌∙◌, List, [], Option, Some, None, ℕ, arith, eq-eqb, eqb-true}
use Rattle.laws.proofs.Prelude.{lt-ltb, ltb-true, eqb, ltb, left, right}
use Rattle.std.proofs.lemmas.Option.{same_Some}
use Rattle.decimal.specs.Decimal.{decimal, Stops}
use Rattle.decimal.specs.Parse.{Parsed, parsed, failed, parseℕ}
use Rattle.decimal.proofs.Steps.{cases}
use Rattle.decimal.proofs.Laws as numbers
use Rattle.decimal.proofs.Laws.{parseℕ_complete, parseℕ_sound}
use Rattle.lines.specs.Text.{line_text}
use Rattle.load_statements.specs.declared.Asked.{Asked}
use Rattle.load_statements.specs.Load.{asked}
use Rattle.load_statements.specs.Input.{Asks, line_ended, parse_field, after_count, after_tiles, after_seed, ask}

-- ---- a field

pub field_complete : (limit end n : ℕ) (t : List ℕ) → n < limit → Stops (end ∷ t) → parse_field limit end (decimal n ++ (end ∷ t)) ≡ parsed n t
unfolding parse_field
field_complete limit end n t h s = rw (parseℕ_complete limit n (end ∷ t) h s, eq-eqb end end refl)

-- what a field that was read says of the text
pub record FieldIs (limit end : ℕ) (s : List ℕ) (n : ℕ) (t : List ℕ) : Type 0 where
  pub text : s ≡ decimal n ++ (end ∷ t)
  pub below : n < limit

pub field_sound : (limit end : ℕ) (s : List ℕ) (n : ℕ) (t : List ℕ) → 10 ≤ limit → parse_field limit end s ≡ parsed n t → FieldIs limit end s n t
unfolding parse_field
field_sound limit end s n t h e = by (parseℕ limit s) refl e
  where
    by : (g : Parsed ℕ) → parseℕ limit s ≡ g → line_ended end g ≡ parsed n t → FieldIs limit end s n t
    by failed p q = numbers.never refl q
    by (parsed m []) p q = numbers.never refl q
    by (parsed m (b ∷ u)) p q =
        cases (eqb b end)
        (λ c.
        let r = parseℕ_sound limit s m (b ∷ u) h p in
        let g : parsed m u ≡ parsed n t = rw c at q in
        let same : m ≡ n = cc in
        let rest : u ≡ t = cc in
        record {
          text =
              r.text
              ∙ ap (λ (x : ℕ). decimal m ++ (x ∷ u)) (eqb-true b end c)
              ∙ ap (λ (x : ℕ). decimal x ++ (end ∷ u)) same
              ∙ ap (λ (x : List ℕ). decimal n ++ (end ∷ x)) rest;
          below = omega (arith, r.below, same);
        })
        (λ c. numbers.never refl (rw c at q))

-- ---- the line

pub ask_complete : (text : List ℕ) (a : Asked) → Asks text a → ask text ≡ Some a
unfolding ask line_text
ask_complete text a h =
    let count = field_complete 513 10 a.count [] (omega (arith, h.range.count)) refl in
    let tiles = field_complete 4096 32 a.tiles (decimal a.count ++ (10 ∷ [])) (omega (arith, h.range.tiles)) refl in
    let seed = field_complete (2 ^ 32) 32 a.seed (decimal a.tiles ++ (32 ∷ (decimal a.count ++ (10 ∷ [])))) h.range.seed refl in
    rw (h.printed, seed, tiles, count, lt-ltb 0 a.tiles h.range.tiles.0, lt-ltb 0 a.count h.range.count.0)

never : {P : Type 0} {a : Asked} → ◌≡◌ {A = Option Asked} None (Some a) → P
never q = let z : ◌≡◌ {A = ℕ} 0 1 = cc in absurd (omega arith)

-- the numbers that the fields have, and the line that they print to
asks : {text t u : List ℕ} {seed tiles count : ℕ} {a : Asked} → FieldIs (2 ^ 32) 32 text seed t → FieldIs 4096 32 t tiles u → FieldIs 513 10 u count []
    → 0 < tiles → 0 < count → asked seed tiles count ≡ a → Asks text a
unfolding line_text
asks {text} {t} {u} {seed} {tiles} {count} {a} p q r h l e =
    rw (← e)
    (record {
      range = record { seed = p.below; tiles = omega (arith, q.below); count = omega (arith, r.below) };
      printed =
          p.text
          ∙ ap (λ (x : List ℕ). decimal seed ++ (32 ∷ x)) q.text
          ∙ ap (λ (x : List ℕ). decimal seed ++ (32 ∷ (decimal tiles ++ (32 ∷ x)))) r.text;
    })

pub ask_sound : (text : List ℕ) (a : Asked) → ask text ≡ Some a → Asks text a
unfolding ask
ask_sound text a e = by_seed (parse_field (2 ^ 32) 32 text) refl e
  where
    by_count : {seed tiles : ℕ} {t u : List ℕ} → FieldIs (2 ^ 32) 32 text seed t → FieldIs 4096 32 t tiles u → (g : Parsed ℕ) → parse_field 513 10 u ≡ g
        → after_count seed tiles g ≡ Some a → Asks text a
    by_count p q failed r f = never f
    by_count p q (parsed count (b ∷ v)) r f = never f
    by_count {seed} {tiles} {t} {u} p q (parsed count []) r f =
        cases (ltb 0 tiles && ltb 0 count)
        (λ c.
        asks p q (field_sound 513 10 u count [] (omega arith) r) (ltb-true 0 tiles (left (ltb 0 tiles) (ltb 0 count) c)) (ltb-true 0 count (right (ltb 0 tiles) (ltb 0 count) c))
        (same_Some _ _ (rw c at f)))
        (λ c. never (rw c at f))

    by_tiles : {seed : ℕ} {t : List ℕ} → FieldIs (2 ^ 32) 32 text seed t → (g : Parsed ℕ) → parse_field 4096 32 t ≡ g → after_tiles seed g ≡ Some a → Asks text a
    by_tiles p failed q f = never f
    by_tiles {t = t} p (parsed tiles u) q f = by_count p (field_sound 4096 32 t tiles u (omega arith) q) (parse_field 513 10 u) refl f

    by_seed : (g : Parsed ℕ) → parse_field (2 ^ 32) 32 text ≡ g → after_seed g ≡ Some a → Asks text a
    by_seed failed p f = never f
    by_seed (parsed seed t) p f = by_tiles (field_sound (2 ^ 32) 32 text seed t (omega arith) p) (parse_field 4096 32 t) refl f

-- a line that is not read is no load's
pub refused : (text : List ℕ) → ask text ≡ None → (a : Asked) → Asks text a → ⊥
refused text e a h = never (sym e ∙ ask_complete text a h)
