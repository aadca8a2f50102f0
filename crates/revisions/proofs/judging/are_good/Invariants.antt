use Rattle.laws.proofs.Prelude.{List, Float}
use Rattle.revision_statements.proofs.Judging.{Passing}
use Rattle.revisions.proofs.judging.are_good.Given as goal

abbrev pub invariant-loop-i : goal.invariant-loop-i
invariant-loop-i l = (floats : List Float) → Passing l.records floats l.n l.i l.ok
