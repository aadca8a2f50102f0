-- `judging::is_other_tile` meets its contract. Assumes nothing.
use Rattle.laws.proofs.Prelude.{to_z-of_z}
use Rattle.layer_row_gpu.proofs.judging.is_other_tile.Goals as goal

pub returns : goal.returns
returns c = rw (c.natural.ensures, to_z-of_z c.ranges.tile)
