-- `write_load` meets its contract: the three blocks, one after another. Assumes nothing.
use Rattle.laws.proofs.Prelude.{arith}
use Rattle.load_text.proofs.Printing.{text_printed}
use Rattle.load_text.proofs.write_load.Goals as goal

pub returns : goal.returns
returns c =
    text_printed _ c.print_head-head_end.ensures.0 c.print_layers-layers_end.ensures.0 c.print_segments.ensures.0
    (omega (arith, c.print_head-head_end.ensures.1, c.print_layers-layers_end.ensures.1, c.print_segments.ensures.1, c.requires.0.count.1, c.requires.1))
