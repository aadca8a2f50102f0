use Rattle.styling.specs.declared.FillRule.TheVariants.{EvenOdd}
use Rattle.cover_statements.specs.InnerWeighed.{weights_of, weights_plane}
use Rattle.cover_statements.proofs.Marks.{Marking}
use Rattle.mark.proofs.weights.mark_of.Given as goal

abbrev pub invariant-loop-octet : goal.invariant-loop-octet
invariant-loop-octet l = Marking (weights_plane 16 (weights_of EvenOdd l.areas)) l.mark l.octet
