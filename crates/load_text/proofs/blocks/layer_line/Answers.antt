-- `layer_line` meets its contract: the id is small enough for both widths. Assumes nothing.
use Rattle.laws.proofs.Prelude.{arith, w32}
use mir.ValLaws.{to_z_pos}
use Rattle.load_statements.specs.Load.{load_layer}
use Rattle.load_text.proofs.blocks.layer_line.Goals as goal

pub returns : goal.returns
unfolding load_layer
returns c = rw (to_z_pos w32 c.args.id (omega arith))
