use Rattle.tile_deciding.proofs.Meeting.{Meeting}
use Rattle.tile_deciding.proofs.judging.are_known.Given as goal

abbrev pub invariant-loop-p : goal.invariant-loop-p
invariant-loop-p l = Meeting l.layers l.colors l.count l.ids l.n l.i l.p
