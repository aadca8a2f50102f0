-- `write_curve` meets its contract. The invariant is that of lines printed one after another. Assumes nothing.
use Rattle.laws.proofs.Prelude.{arith}
use Rattle.lines.proofs.LinesPrinting.{start, next}
use Rattle.curve_text.proofs.CurvePrinting.{line_long, written}
use Rattle.curve_text.proofs.write_curve.Goals as goal

pub loop-rest-init : goal.loop-rest-init
loop-rest-init c = start

pub loop-rest-preserved : goal.loop-rest-preserved
loop-rest-preserved c =
    next c.loop-rest.invariant (omega arith) (line_long _ (omega arith)) c.line_of-line.ensures c.print_line-end.auto.out c.print_line-end.ensures.0

pub returns : goal.returns
returns c =
    written c.requires c.print_bytes-end.ensures c.loop-rest.invariant (omega arith)
