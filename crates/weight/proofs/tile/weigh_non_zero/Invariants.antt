use Rattle.styling.specs.declared.FillRule.TheVariants.{NonZero}
use Rattle.cover_statements.specs.InnerWeighed.{weight_in}
use Rattle.cover_statements.proofs.Mapped.{Mapping}
use Rattle.weight.proofs.tile.weigh_non_zero.Given as goal

abbrev pub invariant-loop-area : goal.invariant-loop-area
invariant-loop-area l = Mapping (weight_in NonZero) l.initial.areas l.initial.areas l.area-index l.areas
