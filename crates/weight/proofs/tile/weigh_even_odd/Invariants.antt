use Rattle.styling.specs.declared.FillRule.TheVariants.{EvenOdd}
use Rattle.cover_statements.specs.InnerWeighed.{weight_in}
use Rattle.cover_statements.proofs.Mapped.{Mapping}
use Rattle.weight.proofs.tile.weigh_even_odd.Given as goal

abbrev pub invariant-loop-area : goal.invariant-loop-area
invariant-loop-area l = Mapping (weight_in EvenOdd) l.initial.areas l.initial.areas l.area-index l.areas
