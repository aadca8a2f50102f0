-- Laws of the cells: a cell's segments are its pixel's own. Over any widths whose local y stays below the height n. Assumes nothing.
use Rattle.std.specs.Prelude.{◌≡◌, ◌*◌, ◌/◌, ◌%◌, ◌<◌, ◌+ℤ◌}
use Rattle.laws.proofs.Prelude.{sym, ap, ◌∙◌, Bool, cond, List, ℕ, div-add-mod', eqb-true, eq-eqb, digits_div, digits_mod}
use Rattle.laws.proofs.Prelude.{eqb, ℤ, pos, both, left, right, same, get_d_tabulate, sum_ext, sumℤ}
use Rattle.pixel_segment.specs.Field.{local_x_of, local_y_of}
use Rattle.cover_statements.specs.Area.{is_own}
use Rattle.cover_statements.specs.Carry.{in_row}
use Rattle.cover_statements.specs.InnerCell.{cell_of, cells_of}
use Rattle.cover_statements.specs.Cover.{cover_at}

module _ (ws : List ℕ) (n : ℕ) (low : (w : ℕ) → local_y_of ws w < n) where
  -- a segment's cell is k where the segment is pixel k's own
  pub cell_own : (k w : ℕ) → eqb (cell_of ws n w) k ≡ is_own ws (k / n) (k % n) w
  cell_own k w =
      same (eqb (cell_of ws n w) k) (is_own ws (k / n) (k % n) w)
      (λ e.
      let q = eqb-true (cell_of ws n w) k e in
      both (in_row ws (k % n) w) (eqb (local_x_of ws w) (k / n))
      (eq-eqb (local_y_of ws w) (k % n) (sym (digits_mod (local_x_of ws w) (low w)) ∙ ap (λ (j : ℕ). j % n) q))
      (eq-eqb (local_x_of ws w) (k / n) (sym (digits_div (local_x_of ws w) (low w)) ∙ ap (λ (j : ℕ). j / n) q)))
      (λ e.
      let y = eqb-true (local_y_of ws w) (k % n) (left (in_row ws (k % n) w) (eqb (local_x_of ws w) (k / n)) e) in
      let x = eqb-true (local_x_of ws w) (k / n) (right (in_row ws (k % n) w) (eqb (local_x_of ws w) (k / n)) e) in
      eq-eqb (cell_of ws n w) k (rw (x, y) (div-add-mod' k n)))

  pub cells_at : (f : ℕ → ℤ) (part : List ℕ) (k : ℕ) → k < 16 * n → cover_at (cells_of ws n f part) k ≡ sumℤ (is_own ws (k / n) (k % n)) f part
  unfolding cells_of
  cells_at f part k h =
      get_d_tabulate (16 * n) (λ j. sumℤ (λ w. eqb (cell_of ws n w) j) f part) (pos 0) k h
      ∙ sum_ext ◌+ℤ◌ (pos 0) (λ w. eqb (cell_of ws n w) k) (is_own ws (k / n) (k % n)) f f part
      (λ w. ap (λ (t : Bool). cond t (f w) (pos 0)) (cell_own k w))
