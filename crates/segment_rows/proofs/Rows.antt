-- Laws of a row in order, at every tile height: its first and last word tell the tile y of all. Assumes nothing.
use Rattle.std.specs.Prelude.{◌≡◌, ◌&&◌, ◌-◌, ◌^◌, ◌≤◌, ◌<◌}
use Rattle.laws.proofs.Prelude.{Bool, true, List, ℕ, arith, eqb-true, eq-eqb, eqb, length}
use Rattle.laws.proofs.Prelude.{get_or, all, left, right, both, same, all_at, all_intro}
use lib.Pow.{shr_mono}
use Rattle.pixel_segment.specs.Field.{tile_y_of}
use Rattle.pixel_segment.specs.Order.{order_key}
use Rattle.segment_rows.specs.Rows.{ascends, is_row}
use Rattle.segment_rows.proofs.Ascending.{from_ordered}
use Rattle.pixel_segment.specs.Layout.{Keyed}

-- tile y leads the order
pub tile_y_ordered : (ws : List ℕ) → Keyed ws → (v w : ℕ) → v < 2 ^ 64 → w < 2 ^ 64 → order_key ws v ≤ order_key ws w → tile_y_of ws v ≤ tile_y_of ws w
tile_y_ordered ws table v w hv hw h = rw (table.tile_y v hv, table.tile_y w hw) (shr_mono 33 h)

module _ (ws : List ℕ) (table : Keyed ws) (t : ℕ) (row : List ℕ) (small : (i : ℕ) → get_or row i 0 < 2 ^ 64) (some : 0 < length row) (up : ascends (order_key ws) row ≡ true) where
  ends : Bool
  ends = eqb (tile_y_of ws (get_or row 0 0)) t && eqb (tile_y_of ws (get_or row (length row - 1) 0)) t

  between : ends ≡ true → (i : ℕ) → i < length row → eqb (tile_y_of ws (get_or row i 0)) t ≡ true
  unfolding ends
  between e i h =
      let first = eqb-true (tile_y_of ws (get_or row 0 0)) t (left (eqb (tile_y_of ws (get_or row 0 0)) t) (eqb (tile_y_of ws (get_or row (length row - 1) 0)) t) e) in
      let last = eqb-true (tile_y_of ws (get_or row (length row - 1) 0)) t (right (eqb (tile_y_of ws (get_or row 0 0)) t) (eqb (tile_y_of ws (get_or row (length row - 1) 0)) t) e) in
      let low = tile_y_ordered ws table (get_or row 0 0) (get_or row i 0) (small 0) (small i) (from_ordered (order_key ws) 0 row up 0 i (omega arith) h) in
      let high = tile_y_ordered ws table (get_or row i 0) (get_or row (length row - 1) 0) (small i) (small (length row - 1)) (from_ordered (order_key ws) 0 row up i (length row - 1) (omega arith) (omega arith)) in
      eq-eqb (tile_y_of ws (get_or row i 0)) t (omega (arith, first, last, low, high))

  pub told_by_ends : (eqb (tile_y_of ws (get_or row 0 0)) t && eqb (tile_y_of ws (get_or row (length row - 1) 0)) t) ≡ is_row ws t row
  unfolding ends
  told_by_ends =
      same ends (is_row ws t row)
      (λ e. both (ascends (order_key ws) row) (all (λ w. eqb (tile_y_of ws w) t) row) up (all_intro (λ w. eqb (tile_y_of ws w) t) row 0 (between e)))
      (λ e.
      let a = right (ascends (order_key ws) row) (all (λ w. eqb (tile_y_of ws w) t) row) e in
      both (eqb (tile_y_of ws (get_or row 0 0)) t) (eqb (tile_y_of ws (get_or row (length row - 1) 0)) t)
      (all_at (λ w. eqb (tile_y_of ws w) t) row a 0 0 some)
      (all_at (λ w. eqb (tile_y_of ws w) t) row a (length row - 1) 0 (omega arith)))
