use Rattle.std.specs.Prelude.{◌+◌, ◌*◌}
use Rattle.laws.proofs.Prelude.{nan, get_or}
use Rattle.styling.specs.declared.FillRule.TheVariants.{EvenOdd}
use Rattle.cover_statements.specs.InnerWeighed.{weights_of, coverages_in}
use Rattle.cover_statements.proofs.PlaneRows.{PlaneRows}
use Rattle.weight.proofs.tile.write_even_odd.Given as goal

abbrev pub invariant-loop-y : goal.invariant-loop-y
invariant-loop-y l = PlaneRows 16 (λ column row. get_or (coverages_in (weights_of EvenOdd l.areas)) (column * 16 + row) nan) l.initial.plane l.y l.plane
