-- `judging::layer_part` meets its contract. Assumes nothing.
use Rattle.laws.proofs.Prelude.{arith, w16, to_z_pos}
use Rattle.layer_row_gpu.proofs.judging.layer_part.Goals as goal

pub returns : goal.returns
returns c =
    rw (c.of_layer.ensures, c.in_tile.ensures, to_z_pos w16 {n = c.args.tile} (omega (arith, c.requires)))
