-- Reading the three blocks is the inverse of printing them: `parse_blocks` takes exactly the texts of well-formed blocks.
-- Assumes nothing.
use Rattle.std.specs.Prelude.{◌≡◌, ◌∷◌, ◌++◌, ◌≤◌, ◌<◌}
use Rattle.laws.proofs.Prelude.{refl, sym, ap, ◌∙◌, subst, false, List, [], append-nil, Option, Some, None, ℕ, dec_lt, arith}
use Rattle.laws.proofs.Prelude.{eq-eqb, ne_eqb, eqb-true, eqb-false, lt-ltb, le-ltb, eqb, ℤ, length}
use Rattle.decimal.proofs.Steps.{cases}
use Rattle.lines.specs.Text.{block_text, AllFields}
use Rattle.lines.specs.Parse.{ParsedLines, parse_block, starts_number}
use Rattle.lines.proofs.Laws.{block_complete, block_sound}
use Rattle.job_text_statements.specs.Text.{Blocks, blocks_text, Formed, head_names, layer_names, segment_names}
use Rattle.job_text_statements.specs.Parse.{after_segments, after_layers, after_head, parse_blocks}

-- ---- the steps of `parse_blocks`

pub too_long : (s : List ℕ) → 65536 < length s → parse_blocks s ≡ None
unfolding parse_blocks
too_long s h = rw (lt-ltb 65536 (length s) h)

pub not_long : (s : List ℕ) → length s ≤ 65536 → parse_blocks s ≡ after_head (parse_block head_names 1 4 s).lines (parse_block head_names 1 4 s).rest
unfolding parse_blocks
not_long s h = rw (le-ltb 65536 (length s) h)

pub one_line : (h : List (List ℤ)) (t : List ℕ) → length h ≡ 1
    → after_head h (Some t) ≡ after_layers h (parse_block layer_names 64 8 t).lines (parse_block layer_names 64 8 t).rest
one_line h t e = rw (eq-eqb (length h) 1 e)

pub other_lines : (h : List (List ℤ)) (t : List ℕ) → (length h ≡ 1 → ⊥) → after_head h (Some t) ≡ None
other_lines h t e = rw (ne_eqb (length h) 1 e)

-- ---- every print is read

layers_come : (ls : List (List ℤ)) (t : List ℕ) → starts_number (block_text layer_names ls ++ t) ≡ false
unfolding block_text
layers_come ls t = refl

segments_come : (ls : List (List ℤ)) → starts_number (block_text segment_names ls) ≡ false
unfolding block_text
segments_come ls = refl

pub complete : (b : Blocks) → Formed b → parse_blocks (blocks_text b) ≡ Some b
unfolding blocks_text
complete b w =
    let segs = block_text segment_names b.segments in
    let rest = block_text layer_names b.layers ++ segs in
    let b1 : parse_block head_names 1 4 (block_text head_names b.head ++ rest) ≡ record { lines = b.head; rest = Some rest }
    = block_complete head_names 1 3 b.head rest (omega (arith, w.one_head)) w.head (layers_come b.layers segs) in
    let b2 : parse_block layer_names 64 8 (block_text layer_names b.layers ++ segs) ≡ record { lines = b.layers; rest = Some segs }
    = block_complete layer_names 64 7 b.layers segs w.few_layers w.layers (segments_come b.segments) in
    let b3 : parse_block segment_names 512 7 segs ≡ record { lines = b.segments; rest = Some [] }
    = ap (parse_block segment_names 512 7) (sym (append-nil segs)) ∙ block_complete segment_names 512 6 b.segments [] w.few_lines w.segments refl in
    not_long (blocks_text b) w.size
    ∙ ap (λ (p : ParsedLines). after_head p.lines p.rest) b1
    ∙ one_line b.head rest w.one_head
    ∙ ap (λ (p : ParsedLines). after_layers b.head p.lines p.rest) b2
    ∙ ap (λ (p : ParsedLines). after_segments b.head b.layers p.lines p.rest) b3

-- ---- what is read was printed

pub never : {A : Type 0} {P : Type 0} {o : Option A} {a : A} → o ≡ None → o ≡ Some a → P
never p q = let z : ◌≡◌ {A = ℕ} 0 1 = cc in absurd (omega arith)

-- blocks that are read, and the text that they print to
pub record Printed (s : List ℕ) (b : Blocks) : Type 0 where
  pub form : Formed b
  pub text : s ≡ blocks_text b

-- the third block, from the text t after the second
record Third (t : List ℕ) (h ls : List (List ℤ)) (b : Blocks) : Type 0 where
  segments : List (List ℤ)
  is : record { head = h; layers = ls; segments = segments } ≡ b
  text : t ≡ block_text segment_names segments
  few : length segments ≤ 512
  fields : AllFields 7 segments

third : (h ls : List (List ℤ)) (t : List ℕ) (b : Blocks) (r : Option (List ℕ)) → (parse_block segment_names 512 7 t).rest ≡ r
    → after_segments h ls (parse_block segment_names 512 7 t).lines r ≡ Some b → Third t h ls b
third h ls t b None e g = never refl g
third h ls t b (Some []) e g =
    let q = parse_block segment_names 512 7 t in
    let k = block_sound segment_names 512 7 t [] e in
    record { segments = q.lines; is = cc; text = k.text ∙ append-nil (block_text segment_names q.lines); few = k.few; fields = k.fields }
third h ls t b (Some (c ∷ u)) e g = never refl g

module _ (s : List ℕ) (b : Blocks) (small : length s ≤ 65536) where
  second : (h : List (List ℤ)) (t : List ℕ) → s ≡ block_text head_names h ++ t → length h ≡ 1 → AllFields 4 h
      → (x : Option (List ℕ)) → (parse_block layer_names 64 8 t).rest ≡ x → after_layers h (parse_block layer_names 64 8 t).lines x ≡ Some b
      → Printed s b
  unfolding blocks_text
  second h t p one f None e g = never refl g
  second h t p one f (Some u) e g =
      let ls = (parse_block layer_names 64 8 t).lines in
      let k = block_sound layer_names 64 8 t u e in
      let l = third h ls u b (parse_block segment_names 512 7 u).rest refl g in
      let q : Blocks = record { head = h; layers = ls; segments = l.segments } in
      let whole : s ≡ blocks_text q
      = p ∙ ap (λ (x : List ℕ). block_text head_names h ++ x) (k.text ∙ ap (λ (x : List ℕ). block_text layer_names ls ++ x) l.text) in
      subst (λ (x : Blocks). Printed s x) l.is
      (record {
        form = record {
          one_head = one;
          head = f;
          few_layers = k.few;
          layers = k.fields;
          few_lines = l.few;
          segments = l.fields;
          size = subst (λ (x : List ℕ). length x ≤ 65536) whole small;
        };
        text = whole;
      })

  first : (x : Option (List ℕ)) → (parse_block head_names 1 4 s).rest ≡ x → after_head (parse_block head_names 1 4 s).lines x ≡ Some b → Printed s b
  first None e g = never refl g
  first (Some t) e g =
      let h = (parse_block head_names 1 4 s).lines in
      let k = block_sound head_names 1 4 s t e in
      cases (eqb (length h) 1)
      (λ o.
      let one = eqb-true (length h) 1 o in
      second h t k.text one k.fields (parse_block layer_names 64 8 t).rest refl (sym (one_line h t one) ∙ g))
      (λ o. never (other_lines h t (eqb-false (length h) 1 o)) g)

pub sound : (s : List ℕ) (b : Blocks) → parse_blocks s ≡ Some b → Printed s b
sound s b g =
    elim (dec_lt 65536 (length s)) [
      | yes h ↦ never (too_long s h) g
      | no h ↦
          let small : length s ≤ 65536 = omega arith in
          first s b small (parse_block head_names 1 4 s).rest refl (sym (not_long s small) ∙ g)
    ]
