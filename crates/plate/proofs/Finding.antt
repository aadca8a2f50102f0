-- A row that a search found, and one that it did not: where it stands, inside the segments. Assumes nothing.
use Rattle.std.specs.Prelude.{◌≡◌, ◌+◌, ◌≤◌, ◌<◌, ◌-ℤ◌, Option}
use Rattle.laws.proofs.Prelude.{refl, ap, ap₂, sym, subst, ◌∙◌, Bool, true, false, cond, List, ℕ, arith, add-one, ℤ, pos, sub_ℕ}
use Rattle.laws.proofs.Prelude.{length, get_or, take, length-take, w16, SFits, difference, taken, sfits}
use Rattle.pixel_segment.specs.Field.{cpu, tile_of, tile_y_of}
use Rattle.pixel_segment.specs.Order.{is_eq}
use Rattle.segment_rows.specs.Search.{Place, found, absent, search_of, order_at, after_of}
use Rattle.segment_rows.specs.declared.search.Key.TheVariants.{TileY, TileYNotNegative}
use Rattle.segment_rows.proofs.Halving.{after_le, found_lt, found_equal}
use Rattle.plate.specs.declared.Part.{Part}
use Rattle.plate.specs.Crop.{is_in_crop}
use Rattle.plate.specs.Rows.{cast_of, past_of, rows_start, place_by, row_place}
use Rattle.plate.specs.Print.{skipped, row, print_row}
use Rattle.plate.proofs.Neighbours.{compared}

-- a segment that is found has the tile y
pub found_tile : (t : ℤ) (l : List ℕ) (i : ℕ) → search_of (order_at (TileY t)) l ≡ found i → tile_of (tile_y_of cpu (get_or l i 0)) ≡ t
found_tile t l i e = compared (tile_of (tile_y_of cpu (get_or l i 0))) t (ap is_eq (found_equal (order_at (TileY t)) l i e))

-- no tile y is below -1, so the number of the row above fits
pub above_fits : (t : ℤ) (l : List ℕ) (i : ℕ) → search_of (order_at (TileY t)) l ≡ found i → SFits w16 (t -ℤ pos 1)
unfolding tile_of
above_fits t l i e = subst (λ (z : ℤ). SFits w16 (z -ℤ pos 1)) (found_tile t l i e) (fits (tile_y_of cpu (get_or l i 0)) (omega arith))
  where
    fits : (n : ℕ) → n < 2048 → SFits w16 (sub_ℕ n 1 -ℤ pos 1)
    fits n h = sfits w16 (sub_ℕ n 1 -ℤ pos 1) (omega (arith, difference n 1, taken (sub_ℕ n 1) (pos 1)))

module _ (t : ℤ) (l : List ℕ) where
  pub row_found : (last start : ℕ) → search_of (order_at (TileY t)) l ≡ found last → start ≡ after_of (search_of (order_at (TileY (t -ℤ pos 1))) (take last l)) → record { start = start; end = last + 1 } ≡ row_place t l
  unfolding row_place place_by
  row_found last start e h = ap₂ part h (add-one last) ∙ sym (ap (place_by t l) e)
    where
      part : ℕ → ℕ → Part
      part start end = record { start = start; end = end }

  pub row_absent : (i : ℕ) → search_of (order_at (TileY t)) l ≡ absent i → record { start = 0; end = 0 } ≡ row_place t l
  unfolding row_place place_by
  row_absent i e = sym (ap (place_by t l) e)

  -- a row stands inside the segments
  pub place_inside : ((row_place t l).start ≤ (row_place t l).end) × ((row_place t l).end ≤ length l)
  unfolding row_place place_by
  place_inside = by (search_of (order_at (TileY t)) l) refl
    where
      by : (p : Place) → search_of (order_at (TileY t)) l ≡ p → ((place_by t l p).start ≤ (place_by t l p).end) × ((place_by t l p).end ≤ length l)
      by (found last) e =
          (omega (arith, after_le (order_at (TileY (t -ℤ pos 1))) (take last l), length-take last l), found_lt (order_at (TileY t)) l last e)
      by (absent i) e = (omega arith, omega arith)

-- so does the first segment without a negative tile y
pub start_le : (l : List ℕ) → rows_start l ≤ length l
unfolding rows_start
start_le l = by (search_of (order_at (TileYNotNegative false)) l) refl
  where
    by : (p : Place) → search_of (order_at (TileYNotNegative false)) l ≡ p → past_of p ≤ length l
    by (found last) e = found_lt (order_at (TileYNotNegative false)) l last e
    by (absent i) e = omega arith

-- and so does what is printed of a row
pub printed_inside : (crop : Option (ℕ × ℕ)) (j : ℕ) (l : List ℕ) (start end : ℕ) → row start end ≡ print_row crop j l → (start ≤ end) × (end ≤ length l)
printed_inside crop j l start end e = by (is_in_crop crop j) e
  where
    by : (t : Bool) → row start end ≡ cond t (row (row_place (cast_of j) l).start (row_place (cast_of j) l).end) skipped → (start ≤ end) × (end ≤ length l)
    by true p =
        let a : start ≡ (row_place (cast_of j) l).start = cc in
        let b : end ≡ (row_place (cast_of j) l).end = cc in
        rw (a, b) (place_inside (cast_of j) l)
    by false p = absurd (let z : ◌≡◌ {A = ℕ} 0 1 = cc in omega arith)
