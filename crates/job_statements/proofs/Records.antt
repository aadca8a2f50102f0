-- The table that reading leaves, as `styling` reads it: record i is that of line i, so the table's layers are those of the lines, in order.
-- Assumes nothing.
use Rattle.std.specs.Prelude.{◌≡◌, ◌∷◌, ◌++◌, ◌+◌, ◌*◌, ◌<◌, ◌≤◌}
use Rattle.laws.proofs.Prelude.{refl, sym, ap, ap₂, ◌∙◌, List, [], map, flatten, ℕ, zero, suc, add-zero, arith}
use Rattle.laws.proofs.Prelude.{Float, nan, length, drop, get_or, length-append, length-map, List·getD-append, List·getD-map, get_or-append-add, over}
use Rattle.laws.proofs.Prelude.{is_tabulate}
use Rattle.styling.specs.declared.Layer.{Layer}
use Rattle.layer_table.specs.Record.{layer_of}
use Rattle.layer_table.specs.Table.{words_at, color_at, layer_at, table_of}
use Rattle.job_lines.specs.declared.layer.LayerLine.{LayerLine}
use Rattle.job_statements.specs.Table.{layer_words, layer_colors, table_words, table_colors, line_record, line_color}

-- parts of one width, one after another
module _ {A B : Type 0} (w : ℕ) (part : B → List A) (wide : (b : B) → length (part b) ≡ w) where
  pub length_parts : (bs : List B) → length (flatten (map part bs)) ≡ w * length bs
  unfolding flatten
  length_parts [] = omega arith
  length_parts (b ∷ bs) = omega (arith, length-append (part b) (flatten (map part bs)), length_parts bs, wide b)

  pub part_at : (d : A) (e : B) (bs : List B) (i j : ℕ) → i < length bs → j < w → get_or (flatten (map part bs)) (w * i + j) d ≡ get_or (part (get_or bs i e)) j d
  unfolding flatten
  part_at d e [] i j h l = absurd (omega arith)
  part_at d e (b ∷ bs) zero j h l =
      let at : w * zero + j ≡ j = omega arith in
      ap (λ (n : ℕ). get_or (part b ++ flatten (map part bs)) n d) at ∙ List·getD-append (part b) (flatten (map part bs)) d j (omega (arith, wide b))
  part_at d e (b ∷ bs) (suc i) j h l =
      let at : w * suc i + j ≡ length (part b) + (w * i + j) = omega (arith, wide b) in
      ap (λ (n : ℕ). get_or (part b ++ flatten (map part bs)) n d) at
      ∙ get_or-append-add (part b) (flatten (map part bs)) (w * i + j) d
      ∙ part_at d e bs i j (omega arith) l

  -- the same of a list that they are written over
  pub written_at : (old : List A) (d : A) (e : B) (bs : List B) (i j : ℕ) → i < length bs → j < w
      → get_or (over (flatten (map part bs)) old) (w * i + j) d ≡ get_or (part (get_or bs i e)) j d
  unfolding over
  written_at old d e bs i j h l =
      let n = length bs in
      List·getD-append (flatten (map part bs)) (drop (length (flatten (map part bs))) old) d (w * i + j) (inside (length_parts bs) (below i n h))
      ∙ part_at d e bs i j h l
    where
      below : (i n : ℕ) → i < n → w * i + w ≤ w * n
      below i zero q = absurd (omega arith)
      below zero (suc n) q = omega arith
      below (suc i) (suc n) q = omega (arith, below i n (omega arith))

      inside : {k : ℕ} → k ≡ w * length bs → w * i + w ≤ w * length bs → w * i + j < k
      inside e q = omega arith

module _ (ls : List LayerLine) (d : LayerLine) (i : ℕ) (h : i < length ls) where
  pub words_read : (old : List ℕ) → words_at (over (table_words ls) old) i ≡ line_record (get_or ls i d)
  unfolding table_words
  words_read old =
      let at : (j : ℕ) → j < 8 → get_or (over (flatten (map layer_words ls)) old) (8 * i + j) 0 ≡ get_or (layer_words (get_or ls i d)) j 0
      = λ j l. written_at 8 layer_words (λ b. refl) old 0 d ls i j h l in
      let first = ap (λ (n : ℕ). get_or (over (flatten (map layer_words ls)) old) n 0) (sym (add-zero (8 * i))) ∙ at 0 (omega arith) in
      rw (
        first,
        at 1 (omega arith),
        at 2 (omega arith),
        at 3 (omega arith),
        at 4 (omega arith),
        at 5 (omega arith),
        at 6 (omega arith),
        at 7 (omega arith),
      )

  pub color_read : (old : List Float) → color_at (over (table_colors ls) old) i ≡ line_color (get_or ls i d)
  unfolding table_colors
  color_read old =
      let at : (j : ℕ) → j < 4 → get_or (over (flatten (map layer_colors ls)) old) (4 * i + j) nan ≡ get_or (layer_colors (get_or ls i d)) j nan
      = λ j l. written_at 4 layer_colors (λ b. refl) old nan d ls i j h l in
      let first = ap (λ (n : ℕ). get_or (over (flatten (map layer_colors ls)) old) n nan) (sym (add-zero (4 * i))) ∙ at 0 (omega arith) in
      rw (first, at 1 (omega arith), at 2 (omega arith), at 3 (omega arith))

-- the layers of the table
abbrev pub layer_said : LayerLine → Layer
layer_said l = layer_of (line_record l) (line_color l)

pub table_read : (ls : List LayerLine) (words : List ℕ) (floats : List Float) → table_of (over (table_words ls) words) (over (table_colors ls) floats) (length ls) ≡ map layer_said ls
unfolding table_of layer_at
table_read [] words floats = refl
table_read (l ∷ ls) words floats =
    let all = l ∷ ls in
    sym
    (is_tabulate (length all) (layer_at (over (table_words all) words) (over (table_colors all) floats)) (layer_said l) (map layer_said all) (length-map all layer_said)
    (λ i h. List·getD-map layer_said all i l ∙ sym (ap₂ layer_of (words_read all l i h words) (color_read all l i h floats))))
