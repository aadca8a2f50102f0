use Rattle.std.specs.Prelude.{◌-◌}
use Rattle.queue_statements.proofs.Ranks.{Halving}
use Rattle.queue.proofs.search.rank.Given as goal

abbrev pub invariant-loop-low : goal.invariant-loop-low
invariant-loop-low l = Halving l.ids l.n l.id l.low l.high

abbrev pub decreases-loop-low : goal.decreases-loop-low
decreases-loop-low l = l.high - l.low
