-- `print_line` meets its contract. The invariant and its steps are those of `LinePrinting`.
-- Assumes nothing.
use Rattle.laws.proofs.Prelude.{arith, w32, kept}
use Rattle.lines.proofs.LinePrinting.{next_field, end}
use Rattle.laws.proofs.Prelude.{get_or, pos}
use Rattle.lines.proofs.print_line.Goals as goal

pub loop-j-preserved : goal.loop-j-preserved
loop-j-preserved c =
    let q = rw (kept w32 (get_or c.args.numbers.now c.loop-j.j (pos 0)) (omega arith)) at c.print_signed-end.ensures in
    rw c.end_at.ensures (next_field c.loop-j.invariant (omega arith) q.0 q.1)

pub returns : goal.returns
returns c = end c.loop-j.invariant (omega arith)
