-- `print_layers` meets its contract. The invariant is that of lines printed one after another.
-- Assumes nothing.
use Rattle.laws.proofs.Prelude.{arith}
use Rattle.lines.proofs.LinesPrinting.{start, next}
use Rattle.load_statements.proofs.Fields.{layer_long}
use Rattle.load_text.proofs.Printing.{layers_printed}
use Rattle.load_text.proofs.blocks.print_layers.Goals as goal

pub loop-id-init : goal.loop-id-init
loop-id-init c = start

pub loop-id-preserved : goal.loop-id-preserved
loop-id-preserved c =
    next c.loop-id.invariant (omega arith) (layer_long _ (omega arith)) c.layer_line-line.ensures c.print_line-end.auto.out c.print_line-end.ensures.0

pub returns : goal.returns
returns c = layers_printed c.print_bytes-end.ensures c.loop-id.invariant (omega arith)
