use Rattle.queue_statements.proofs.Judging.{Judging}
use Rattle.tile_deciding.proofs.judging.do_ascend.Given as goal

abbrev pub invariant-loop-id : goal.invariant-loop-id
invariant-loop-id l = Judging l.n l.ids l.id-index l.ok l.low
