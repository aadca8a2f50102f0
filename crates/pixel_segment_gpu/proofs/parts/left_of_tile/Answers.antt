-- `parts::left_of_tile` meets its contract. Assumes nothing.
use Rattle.laws.proofs.Prelude.{to_z-of_z}
use Rattle.pixel_segment_gpu.proofs.parts.left_of_tile.Goals as goal

pub returns : goal.returns
returns c = rw (c.left_of_tile_in.ensures, to_z-of_z c.ranges.tile_x)
