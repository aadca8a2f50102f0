use Rattle.layer_table.proofs.Judging.{Judging}
use Rattle.layer_table.proofs.is_table.Given as goal

abbrev pub invariant-loop-i : goal.invariant-loop-i
invariant-loop-i l = Judging l.layers l.count l.i l.ok l.low
