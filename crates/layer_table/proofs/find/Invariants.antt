use Rattle.layer_table.proofs.Halving.{Halving}
use Rattle.layer_table.proofs.find.Given as goal

abbrev pub invariant-loop-len : goal.invariant-loop-len
invariant-loop-len l = Halving l.layers l.count l.id l.start l.len

abbrev pub decreases-loop-len : goal.decreases-loop-len
decreases-loop-len l = l.len
