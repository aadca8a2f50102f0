-- `parts::in_tile` meets its contract. Assumes nothing.
use Rattle.laws.proofs.Prelude.{to_z-of_z}
use Rattle.pixel_segment_gpu.proofs.parts.in_tile.Goals as goal

pub returns : goal.returns
returns c = rw (c.in_tile_in.ensures, to_z-of_z c.ranges.tile_x)
