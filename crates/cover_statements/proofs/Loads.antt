-- Laws of the judging of number 9: the absolute covers of each row, capped at 128, one segment after another. Over any widths whose local y
-- stays below the height n. Assumes nothing.
use Rattle.std.specs.Prelude.{◌≡◌, ◌&&◌, ◌+◌, ◌≤◌, ◌<◌}
use Rattle.laws.proofs.Prelude.{refl, sym, ap, ap₂, ◌∙◌, Bool, true, false, cond, List, map, ⊎_elim, ℕ, zero, suc, min}
use Rattle.laws.proofs.Prelude.{arith, le-leb, lt-leb, leb-true, eq-eqb, ne_eqb, leb, eqb, ℤ, pos, nat_abs, length, get_or, drop, set, length-set}
use Rattle.laws.proofs.Prelude.{length-map, replicate, length-replicate, List·getD-map, get_or-set_same, get_or-set_other, clash, all_at, all_intro}
use Rattle.laws.proofs.Prelude.{le_or_lt, eq_or_ne, filled, filled_more, is_tabulate, length_tabulate, get_d_tabulate, sum_step, sum_end, every}
use Rattle.laws.proofs.Prelude.{tabulate, sumℕ}
use Rattle.laws.proofs.Bools.{not-true}
use Rattle.pixel_segment.specs.Field.{local_y_of}
use Rattle.cover_statements.proofs.Carries.{light}
use Rattle.cover_statements.proofs.Filled.{filled_whole, get_d_default}
use Rattle.cover_statements.proofs.Testing.{all_every}
use Rattle.cover_statements.specs.Carry.{abs_cover, load_in, light_at, is_light}
use Rattle.cover_statements.specs.Cover.{cover_at}
use Rattle.cover_statements.specs.InnerLoad.{Capped, Magnitudes, loads_of, all_light}

pub capped_set : {loads : List ℕ} {k v : ℕ} → Capped loads → k < length loads → v ≤ 128 → Capped (set loads k v)
capped_set {loads} {k} {v} c h q =
    record {
      at =
          λ y.
          ⊎_elim
          (λ (s : y ≡ k). rw (s, get_or-set_same loads k v 0 h) q)
          (λ (s : y ≡ k → ⊥). rw (get_or-set_other loads k y v 0 s) (c.at y))
          (eq_or_ne y k);
    }

-- ---- the loop over the incoming covers, at row y

pub record Measuring (covers : List ℤ) (n : ℕ) (y : ℕ) (loads : List ℕ) : Type 0 where
  pub reached : y ≤ n
  pub wide : length covers ≡ n
  pub long : length loads ≡ n
  pub drawn : loads ≡ filled (replicate n 0) (map nat_abs covers) y
  pub capped : Capped loads

module _ {covers : List ℤ} {n : ℕ} where
  pub measure_start : length covers ≡ n → Measuring covers n 0 (replicate n 0)
  measure_start e =
      record {
        reached = omega arith;
        wide = e;
        long = length-replicate n 0;
        drawn = refl;
        capped = record { at = λ y. rw (get_d_default n y) (omega arith) };
      }

  pub measure_next : {y v : ℕ} {loads : List ℕ} → Measuring covers n y loads → y < n → v ≡ nat_abs (cover_at covers y) → v ≤ 128 → Measuring covers n (y + 1) (set loads y v)
  measure_next {y} {v} {loads} c h e q =
      record {
        reached = omega arith;
        wide = c.wide;
        long = length-set loads y v ∙ c.long;
        drawn =
            rw (e ∙ sym (List·getD-map nat_abs covers y (pos 0)), c.drawn)
            (filled_more (replicate n 0) (map nat_abs covers) y 0 (omega (arith, length-replicate {A = ℕ} n 0)) (omega (arith, length-map covers nat_abs, c.wide)));
        capped = capped_set c.capped (omega (arith, c.long)) q;
      }

  pub measure_end : {y : ℕ} {loads : List ℕ} → Measuring covers n y loads → n ≤ y → Magnitudes covers loads
  measure_end {y} {loads} c h =
      let e : y ≡ n = omega (arith, c.reached) in
      record {
        same = c.drawn ∙ rw e (filled_whole (replicate n 0) (map nat_abs covers) n (length-replicate n 0) (length-map covers nat_abs ∙ c.wide));
        capped = c.capped;
      }

-- ---- the loop over a part: numbers summed at the keys of the words, capped at 128

pub record LoadingBy (key g : ℕ → ℕ) (n : ℕ) (part incoming : List ℕ) (i : ℕ) (loads : List ℕ) : Type 0 where
  pub reached : i ≤ length part
  pub long : length loads ≡ n
  pub capped : Capped loads
  pub same : (y : ℕ) → y < n → min (get_or loads y 0 + sumℕ (λ w. eqb (key w) y) g (drop i part)) 128 ≡ min (get_or incoming y 0 + sumℕ (λ w. eqb (key w) y) g part) 128

module _ {key g : ℕ → ℕ} {n : ℕ} {part incoming : List ℕ} where
  pub load_start : length incoming ≡ n → Capped incoming → LoadingBy key g n part incoming 0 incoming
  load_start e c = record { reached = omega arith; long = e; capped = c; same = λ y h. refl }

  module _ {i : ℕ} {loads : List ℕ} (c : LoadingBy key g n part incoming i loads) (h : i < length part) where
    step : (y : ℕ) → sumℕ (λ w. eqb (key w) y) g (drop i part) ≡ cond (eqb (key (get_or part i 0)) y) (g (get_or part i 0)) 0 + sumℕ (λ w. eqb (key w) y) g (drop (i + 1) part)
    step y = sum_step ◌+◌ 0 (λ w. eqb (key w) y) g part i h

    -- the word's number added at its key k
    pub load_next : {k v : ℕ} → k ≡ key (get_or part i 0) → k < n → v ≡ min (get_or loads k 0 + g (get_or part i 0)) 128 → LoadingBy key g n part incoming (i + 1) (set loads k v)
    load_next {k} {v} p q e =
        record {
          reached = omega arith;
          long = length-set loads k v ∙ c.long;
          capped = capped_set c.capped (omega (arith, c.long)) (omega (arith, e));
          same =
              λ y l.
              ⊎_elim
              (λ (s : y ≡ k).
              rw (s, get_or-set_same loads k v 0 (omega (arith, c.long)))
              (omega (arith, e, rw s at (c.same y l), rw (eq-eqb (key (get_or part i 0)) k (sym p)) at (step k))))
              (λ (s : y ≡ k → ⊥).
              rw (get_or-set_other loads k y v 0 s)
              (omega (arith, c.same y l, rw (ne_eqb (key (get_or part i 0)) y (λ t. s (sym t ∙ sym p))) at (step y))))
              (eq_or_ne y k);
        }

  pub load_end_by : {i : ℕ} {loads : List ℕ} → LoadingBy key g n part incoming i loads → length part ≤ i → loads ≡ tabulate n (λ y. min (get_or incoming y 0 + sumℕ (λ w. eqb (key w) y) g part) 128)
  load_end_by {i} {loads} c h =
      is_tabulate n (λ y. min (get_or incoming y 0 + sumℕ (λ w. eqb (key w) y) g part) 128) 0 loads c.long
      (λ y l. omega (arith, c.same y l, c.capped.at y, sum_end ◌+◌ 0 (λ w. eqb (key w) y) g part i h))

-- the absolute covers of the pixel rows
abbrev pub Loading : List ℕ → ℕ → List ℕ → List ℕ → ℕ → List ℕ → Type 0
Loading ws n part incoming i loads = LoadingBy (local_y_of ws) (abs_cover ws) n part incoming i loads

pub load_end : (ws : List ℕ) {n : ℕ} {part incoming : List ℕ} {i : ℕ} {loads : List ℕ} → Loading ws n part incoming i loads → length part ≤ i → loads ≡ loads_of ws n incoming part
unfolding loads_of
load_end ws c h = load_end_by c h

-- ---- what the loads say of number 9

capped_test : (a : ℕ) → leb (min a 128) 127 ≡ leb a 127
capped_test a =
    ⊎_elim
    (λ (h : a ≤ 127). le-leb (min a 128) 127 (omega arith) ∙ sym (le-leb a 127 h))
    (λ (h : 127 < a). lt-leb (min a 128) 127 (omega arith) ∙ sym (lt-leb a 127 h))
    (le_or_lt a 127)

-- no load is above 127 where the absolute covers of no row are
pub loads_light : (ws : List ℕ) (n : ℕ) (incoming part : List ℕ) → all_light (loads_of ws n incoming part) ≡ every n (λ y. leb (get_or incoming y 0 + load_in ws y part) 127)
unfolding all_light loads_of
loads_light ws n incoming part =
    let f : ℕ → ℕ = λ y. min (get_or incoming y 0 + load_in ws y part) 128 in
    all_every (λ load. leb load 127) (loads_of ws n incoming part) 0 n (length_tabulate n f) (λ y. leb (get_or incoming y 0 + load_in ws y part) 127)
    (λ y h. ap (λ (a : ℕ). leb a 127) (get_d_tabulate n f 0 y h) ∙ capped_test (get_or incoming y 0 + load_in ws y part))

every_ext : (n : ℕ) (f g : ℕ → Bool) → ((y : ℕ) → f y ≡ g y) → every n f ≡ every n g
every_ext zero f g h = refl
every_ext (suc n) f g h = ap₂ ◌&&◌ (h n) (every_ext n f g h)

pub loads_judge : (ws : List ℕ) (n : ℕ) (covers : List ℤ) (part : List ℕ) → all_light (loads_of ws n (map nat_abs covers) part) ≡ is_light ws n covers part
unfolding is_light
loads_judge ws n covers part =
    loads_light ws n (map nat_abs covers) part
    ∙ every_ext n (λ y. leb (get_or (map nat_abs covers) y 0 + load_in ws y part) 127) (light_at ws covers part)
    (λ y. ap (λ (a : ℕ). leb (a + load_in ws y part) 127) (List·getD-map nat_abs covers y (pos 0)))

-- where no load is above 127, each is within it
pub light_at_lem : (loads : List ℕ) → all_light loads ≡ true → (y : ℕ) → y < length loads → get_or loads y 0 ≤ 127
unfolding all_light
light_at_lem loads e y h = leb-true (get_or loads y 0) 127 (all_at (λ load. leb load 127) loads e y 0 h)

-- loads that come in above 127 are judged so with every part
pub incoming_heavy : (ws : List ℕ) (n : ℕ) (covers : List ℤ) (part : List ℕ) → length covers ≡ n → all_light (map nat_abs covers) ≡ false → is_light ws n covers part ≡ false
unfolding all_light
incoming_heavy ws n covers part l e =
    not-true (is_light ws n covers part)
    (λ t.
    clash
    (all_intro (λ load. leb load 127) (map nat_abs covers) 0
    (λ y h.
    let q : y < n = omega (arith, length-map covers nat_abs) in
    ap (λ (a : ℕ). leb a 127) (List·getD-map nat_abs covers y (pos 0)) ∙ le-leb (nat_abs (cover_at covers y)) 127 (omega (arith, (light t).at y q))))
    e)
