-- `parts::up_to_tile` meets its contract. Assumes nothing.
use Rattle.laws.proofs.Prelude.{arith, to_z-of_z}
use Rattle.segment_rows.specs.Search.{up_to_tile}
use Rattle.segment_rows.proofs.Halving.{told_le}
use Rattle.segment_rows.proofs.parts.up_to_tile.Goals as goal

pub end_of-end-requires : goal.end_of-end-requires
end_of-end-requires c = omega (arith, told_le _ _ c.search_last_by_tile_x.ensures)

pub slice_between-requires : goal.slice_between-requires
slice_between-requires c = omega (arith, c.end_of-end.ensures, told_le _ _ c.search_last_by_tile_x.ensures)

pub returns : goal.returns
unfolding up_to_tile
returns c =
    rw (c.slice_between.ensures, c.end_of-end.ensures, c.search_last_by_tile_x.ensures, to_z-of_z c.ranges.tile_x)
