use Rattle.decimal.proofs.Reading.{Reading}
use Rattle.decimal.proofs.read_unsigned.Given as goal

abbrev pub invariant-loop-i : goal.invariant-loop-i
invariant-loop-i l = Reading l.limit l.s l.at l.n l.i
