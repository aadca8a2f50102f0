use Rattle.lines.proofs.LinePrinting.{LinePrinting}
use Rattle.lines.proofs.print_line.Given as goal

abbrev pub invariant-loop-j : goal.invariant-loop-j
invariant-loop-j l = LinePrinting l.numbers l.initial.out l.at l.p l.j l.out
