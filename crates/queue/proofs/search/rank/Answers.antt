-- `queue::search::rank` meets its contract. What holds of the places that are left is `Halving`. Assumes nothing.
use Rattle.laws.proofs.Prelude.{arith}
use Rattle.queue_statements.proofs.Ranks.{begin, upper, lower, end}
use Rattle.queue.proofs.search.rank.Goals as goal

pub loop-low-init : goal.loop-low-init
loop-low-init c = begin _ c.requires.0 c.requires.1

pub loop-low-preserved-then-ids-middle : goal.loop-low-preserved-then-ids-middle
loop-low-preserved-then-ids-middle c = upper c.loop-low.invariant (omega arith) (omega arith) (omega arith)

pub loop-low-preserved : goal.loop-low-preserved
loop-low-preserved c = lower c.loop-low.invariant (omega arith) (omega arith) (omega arith)

pub returns : goal.returns
returns c = end c.loop-low.invariant (omega arith)
