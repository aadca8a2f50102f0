use Rattle.lines.proofs.LinesPrinting.{LinesPrinting}
use Rattle.curve_text.specs.Curve.{curve_line}
use Rattle.curve_text.proofs.write_curve.Given as goal

abbrev pub invariant-loop-rest : goal.invariant-loop-rest
invariant-loop-rest l = LinesPrinting curve_line 1024 9 l.initial.out l.initial.end l.end l.rest l.out
