-- `parts::left_of_tile_in` meets its contract. Assumes nothing.
use Rattle.laws.proofs.Prelude.{arith, to_z-of_z}
use Rattle.segment_rows.proofs.Halving.{told_le}
use Rattle.segment_rows.proofs.parts.left_of_tile_in.Goals as goal

pub end_of-end-requires : goal.end_of-end-requires
end_of-end-requires c = omega (arith, told_le _ _ c.search_last_by_tile_x_at_least_in.ensures)

pub slice_between-requires : goal.slice_between-requires
slice_between-requires c = omega (arith, c.end_of-end.ensures, told_le _ _ c.search_last_by_tile_x_at_least_in.ensures)

pub returns : goal.returns
returns c =
    let found = c.search_last_by_tile_x_at_least_in.ensures in
    rw (c.slice_between.ensures, c.end_of-end.ensures, found, to_z-of_z c.ranges.tile_x)
