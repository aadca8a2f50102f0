use Rattle.lines.proofs.LinesReading.{LinesReading}
use Rattle.lines.proofs.read_lines.Given as goal

abbrev pub invariant-loop-j : goal.invariant-loop-j
invariant-loop-j l = LinesReading l.m l.k l.s l.at l.initial.out l.i l.p l.j l.out
