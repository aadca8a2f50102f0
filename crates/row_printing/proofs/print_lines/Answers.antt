-- `print_lines` meets its contract: the invariant and its steps are those of `Lining`; the measure is the lines left. Assumes nothing.
use Rattle.row_printing.proofs.Lining.{start, next}
use Rattle.row_printing.proofs.print_lines.Goals as goal

pub loop-i-init : goal.loop-i-init
loop-i-init c = start c.requires

pub loop-i-preserved : goal.loop-i-preserved
loop-i-preserved c =
    next c.loop-i.invariant c.loop-i-test.true c.print_tile-end.auto.out c.print_tile-end.ensures
