use Rattle.cover_statements.proofs.Marks.{Marking}
use Rattle.mark.proofs.mark_of.Given as goal

abbrev pub invariant-loop-octet : goal.invariant-loop-octet
invariant-loop-octet l = Marking l.plane l.mark l.octet
