use Rattle.kept_count.specs.Keeping.{members_of}
use Rattle.kept_count.proofs.Walks.{Walking}
use Rattle.kept_count.proofs.walking.stay.Given as goal

abbrev pub invariant-loop-i : goal.invariant-loop-i
invariant-loop-i l = Walking (members_of l.last_ids l.last_kinds l.last) (members_of l.ids l.kinds l.n) l.met l.i
