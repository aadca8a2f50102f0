-- `parts::left_of_tile` meets its contract. Assumes nothing.
use Rattle.laws.proofs.Prelude.{to_z-of_z}
use Rattle.segment_rows.specs.Search.{left_part}
use Rattle.segment_rows.proofs.parts.left_of_tile.Goals as goal

pub returns : goal.returns
unfolding left_part
returns c = rw (c.left_of_tile_in.ensures, to_z-of_z c.ranges.tile_x)
