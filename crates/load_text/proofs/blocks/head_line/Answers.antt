-- `head_line` meets its contract: the number of tiles is small enough for both widths. Assumes nothing.
use Rattle.laws.proofs.Prelude.{arith, w32}
use mir.ValLaws.{to_z_pos}
use Rattle.load_text.proofs.blocks.head_line.Goals as goal

pub returns : goal.returns
returns c = rw (to_z_pos w32 c.args.tiles (omega arith))
