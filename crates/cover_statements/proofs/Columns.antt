-- The doubled areas of a tile, one column after another: the columns passed hold d, the others their own double areas, and each row's sum is the
-- cover that comes in with what lies left of the column. Over any widths whose local y stays below the height n and whose multiplier has six bits.
-- Assumes nothing.
use Rattle.std.specs.Prelude.{◌≡◌, ◌+◌, ◌*◌, ◌/◌, ◌%◌, ◌≤◌, ◌<◌, ◌+ℤ◌, ◌*ℤ◌}
use Rattle.laws.proofs.Prelude.{sym, ap, ◌∙◌, cond, List, ⊎_elim, ℕ, arith, eq-eqb, ne_eqb, lt-ltb, le-ltb}
use Rattle.laws.proofs.Prelude.{digits_lt, digits_div, digits_mod, eqb, ltb, ℤ, pos, +ℤ_assoc, +ℤ_idr, length, eq_or_ne, is_tabulate}
use Rattle.laws.proofs.Prelude.{length_tabulate, abs_add, sumℤ}
use native.Mathlib.Nat.{le_of_eq, le_trans}
use Rattle.pixel_segment.specs.Field.{local_y_of, cover_of, double_area_of, width_of}
use Rattle.cover_statements.specs.Area.{is_own, cover_before, own_area, doubled_area, areas_of}
use Rattle.cover_statements.specs.InnerCell.{cell_of, cells_of, Accumulated, Shadable, Shaded}
use Rattle.cover_statements.specs.Cover.{cover_at}
use Rattle.cover_statements.proofs.Areas.{before_none, before_next, before_bound, below_next, area_bound}
use Rattle.cover_statements.proofs.Carries.{Light}
use Rattle.cover_statements.proofs.Cells.{cells_at}
use Rattle.cover_statements.proofs.Planes.{row_below, column_below}

pub record Columns (ws : List ℕ) (n : ℕ) (covers : List ℤ) (part : List ℕ) (cells : List ℤ) (column : ℕ) (areas sums : List ℤ) : Type 0 where
  pub reached : column ≤ 16
  pub long : length areas ≡ 16 * n
  pub cells_are : cells ≡ cells_of ws n (cover_of ws) part
  pub area : (k : ℕ) → k < 16 * n → cover_at areas k ≡ cond (ltb (k / n) column) (doubled_area ws (cover_at covers) part (k / n) (k % n)) (own_area ws (k / n) (k % n) part)
  pub sum : (y : ℕ) → y < n → cover_at sums y ≡ cover_at covers y +ℤ cover_before ws column y part

pub cells_length : (ws : List ℕ) (n : ℕ) (f : ℕ → ℤ) (part : List ℕ) → length (cells_of ws n f part) ≡ 16 * n
unfolding cells_of
cells_length ws n f part = length_tabulate (16 * n) (λ k. sumℤ (λ w. eqb (cell_of ws n w) k) f part)

module _ {ws : List ℕ} {n : ℕ} {covers : List ℤ} {part : List ℕ} {cells : List ℤ} where
  module _ (low : (w : ℕ) → local_y_of ws w < n) where
    pub columns_start : {areas : List ℤ} → Accumulated ws n part areas cells → Columns ws n covers part cells 0 areas covers
    columns_start {areas} a =
        record {
          reached = omega arith;
          long = ap length a.areas_are ∙ cells_length ws n (double_area_of ws) part;
          cells_are = a.covers_are;
          area =
              λ k h.
              ap (λ (l : List ℤ). cover_at l k) a.areas_are
              ∙ cells_at ws n low (double_area_of ws) part k h
              ∙ sym (rw (le-ltb (k / n) 0 (omega arith)));
          sum = λ y h. sym (ap (λ (z : ℤ). cover_at covers y +ℤ z) (before_none ws y part) ∙ +ℤ_idr (cover_at covers y));
        }

    module _ {column : ℕ} {areas sums : List ℤ} (c : Columns ws n covers part cells column areas sums) (h : column < 16) where
      -- the column's pixels, and the sums past it
      shade : (k : ℕ) → k < 16 * n → k / n ≡ column → pos 32 *ℤ cover_at sums (k % n) +ℤ cover_at areas k ≡ doubled_area ws (cover_at covers) part (k / n) (k % n)
      unfolding doubled_area
      shade k l e = rw (c.area k l, le-ltb (k / n) column (le_of_eq (sym e)), c.sum (k % n) (row_below n k l), e)

      move : (y : ℕ) → y < n → cover_at sums y +ℤ cover_at cells (column * n + y) ≡ cover_at covers y +ℤ cover_before ws (column + 1) y part
      move y l =
          let k = column * n + y in
          let own : cover_at cells k ≡ sumℤ (is_own ws column y) (cover_of ws) part =
          ap (λ (t : List ℤ). cover_at t k) c.cells_are
          ∙ cells_at ws n low (cover_of ws) part k (digits_lt h l)
          ∙ rw (digits_div column l, digits_mod column l) in
          rw (own, c.sum y l, before_next ws column y part)
          (+ℤ_assoc (cover_at covers y) (cover_before ws column y part) (sumℤ (is_own ws column y) (cover_of ws) part))

      pub columns_ready : width_of ws 5 ≡ 6 → Light ws n covers part → Shadable n column areas cells sums
      columns_ready six light =
          record {
            low = h;
            room = c.long;
            area_small =
                λ y l.
                let k = column * n + y in
                rw (rw (digits_div column l, digits_mod column l) at (shade k (digits_lt h l) (digits_div column l))) (area_bound ws six (cover_at covers) part column y (light.at y l));
            sum_small =
                λ y l.
                rw (move y l)
                (omega (arith, light.at y l, abs_add (cover_at covers y) (cover_before ws (column + 1) y part), before_bound ws (column + 1) y part));
          }

      pub columns_next : {newAreas newSums : List ℤ} → Shaded n column n areas cells sums newAreas newSums → Columns ws n covers part cells (column + 1) newAreas newSums
      columns_next {newAreas} {newSums} s =
          record {
            reached = omega arith;
            long = s.long;
            cells_are = c.cells_are;
            area =
                λ k l.
                s.area k l
                ∙ ⊎_elim
                (λ (q : k / n ≡ column).
                rw (eq-eqb (k / n) column q, lt-ltb (k % n) n (row_below n k l), lt-ltb (k / n) (column + 1) (rw q (omega arith))) (shade k l q))
                (λ (q : k / n ≡ column → ⊥).
                rw (ne_eqb (k / n) column q, below_next (k / n) column q) (c.area k l))
                (eq_or_ne (k / n) column);
            sum = λ y l. s.sum y l ∙ rw (lt-ltb y n l) (move y l);
          }

  pub columns_end : {column : ℕ} {areas sums : List ℤ} → Columns ws n covers part cells column areas sums → 16 ≤ column → areas ≡ areas_of ws n (cover_at covers) part
  unfolding areas_of
  columns_end {column} {areas} c h =
      is_tabulate (16 * n) (λ k. doubled_area ws (cover_at covers) part (k / n) (k % n)) (pos 0) areas c.long
      (λ k l. c.area k l ∙ rw (lt-ltb (k / n) column (le_trans (column_below n k l) h)))
