-- `find_row` meets its contract: what is found has the tile y that is looked for, so the row above it has a number. Assumes nothing.
use Rattle.std.specs.Prelude.{◌≡◌, ◌-ℤ◌}
use Rattle.laws.proofs.Prelude.{ℕ, ℤ, ap, sym, ◌∙◌, arith, pos, length-take, w16, SFits, to_z, of_z, to_z-of_z}
use Rattle.segment_rows.specs.Search.{found, place_in, search_of, order_at, after_of}
use Rattle.segment_rows.specs.declared.search.Key.TheVariants.{TileY}
use Rattle.segment_rows.proofs.Halving.{told_le, found_lt}
use Rattle.plate.specs.Rows.{cast_of}
use Rattle.plate.proofs.Finding.{row_found, row_absent, above_fits}
use Rattle.plate.proofs.find_row.Goals as goal
use Rattle.plate.proofs.find_row.Goals.{In-Ok}

-- the row number as it is cast
tile_y : (j : ℕ) (r : ℤ) → SFits w16 r → r ≡ cast_of j → to_z w16 (of_z w16 r) ≡ cast_of j
tile_y j r fits e = to_z-of_z fits ∙ e

at_tile_y : (c : In-Ok) → to_z w16 (of_z w16 c.cast-tile_y.result) ≡ cast_of c.args.j
at_tile_y c = tile_y c.args.j c.cast-tile_y.result (record { sfits = c.cast-tile_y.type_inv }) c.cast-tile_y.ensures

-- the last segment of the row
at_last : (c : In-Ok) → search_of (order_at (TileY (cast_of c.args.j))) c.args.segments.now ≡ found c.in-Ok.last
at_last c =
    rw (at_tile_y c) at (sym c.search_last_by_tile_y.ensures ∙ ap place_in c.in-Ok.is)

-- the row above
above : (c : In-Ok) → SFits w16 (cast_of c.args.j -ℤ pos 1)
above c =
    let s = c.args in
    above_fits (cast_of s.j) s.segments.now c.in-Ok.last (at_last c)

pub slice_bounds-search_last_by_tile_y-end : goal.slice_bounds-search_last_by_tile_y-end
slice_bounds-search_last_by_tile_y-end c =
    let s = c.args in
    let last = c.in-Ok.last in
    omega (arith, length-take last s.segments.now, found_lt (order_at (TileY (cast_of s.j))) s.segments.now last (at_last (goal.at.slice_bounds-search_last_by_tile_y-end c).In-Ok))

pub overflow_sub-tile_y : goal.overflow_sub-tile_y
overflow_sub-tile_y c = rw (at_tile_y (goal.at.overflow_sub-tile_y c).In-Ok) (above (goal.at.overflow_sub-tile_y c).In-Ok)

pub end_of-start-requires : goal.end_of-start-requires
end_of-start-requires c =
    let s = c.args in
    let last = c.in-Ok.last in
    omega (arith, told_le _ _ c.search_last_by_tile_y-in-Ok.ensures, length-take last s.segments.now)

pub overflow_add-result : goal.overflow_add-result
overflow_add-result c =
    let s = c.args in
    omega (arith, found_lt (order_at (TileY (cast_of s.j))) s.segments.now c.in-Ok.last (at_last (goal.at.overflow_add-result c).In-Ok))

pub returns-in-Ok : goal.returns-in-Ok
returns-in-Ok c =
    let s = c.args in
    row_found (cast_of s.j) s.segments.now c.in-Ok.last c.end_of-start.result (at_last (goal.at.returns-in-Ok c).In-Ok)
    (rw (at_tile_y (goal.at.returns-in-Ok c).In-Ok, to_z-of_z (above (goal.at.returns-in-Ok c).In-Ok)) at (c.end_of-start.ensures ∙ ap after_of c.search_last_by_tile_y-in-Ok.ensures))

pub returns-in-Err : goal.returns-in-Err
returns-in-Err c =
    let s = c.args in
    row_absent (cast_of s.j) s.segments.now c.in-Err.field-0
    (rw (tile_y s.j c.cast-tile_y.result (record { sfits = c.cast-tile_y.type_inv }) c.cast-tile_y.ensures) at (sym c.search_last_by_tile_y.ensures ∙ ap place_in c.in-Err.is))
