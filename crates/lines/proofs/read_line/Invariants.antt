use Rattle.lines.proofs.LineReading.{LineReading}
use Rattle.lines.proofs.read_line.Given as goal

abbrev pub invariant-loop-j : goal.invariant-loop-j
invariant-loop-j l = LineReading l.k l.s l.at l.initial.out l.o l.i l.j l.out
