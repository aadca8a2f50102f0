-- `put` meets its contract: each answer is a law of `Putting`. Assumes nothing.
use Rattle.laws.proofs.Prelude.{arith}
use Rattle.report.proofs.Putting.{full, next}
use Rattle.report.proofs.put.Goals as goal

pub returns-then-out-at : goal.returns-then-out-at
returns-then-out-at c = full (omega arith)

pub returns-then-out-at-2 : goal.returns-then-out-at-2
returns-then-out-at-2 c = full (omega arith)

pub returns : goal.returns
returns c = next (omega arith) c.print_bytes.ensures
