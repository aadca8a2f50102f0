use Rattle.row_printing.proofs.Lining.{Lining}
use Rattle.row_printing.proofs.print_lines.Given as goal

abbrev pub invariant-loop-i : goal.invariant-loop-i
invariant-loop-i l = Lining l.told l.first l.n l.initial.out l.at l.out l.end l.i
