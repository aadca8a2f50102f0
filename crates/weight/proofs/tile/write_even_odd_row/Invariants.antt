use Rattle.std.specs.Prelude.{◌+◌, ◌*◌}
use Rattle.laws.proofs.Prelude.{nan, get_or}
use Rattle.styling.specs.declared.FillRule.TheVariants.{EvenOdd}
use Rattle.cover_statements.specs.InnerWeighed.{weights_of, coverages_in}
use Rattle.cover_statements.proofs.PlaneRows.{Row}
use Rattle.weight.proofs.tile.write_even_odd_row.Given as goal

abbrev pub invariant-loop-x : goal.invariant-loop-x
invariant-loop-x l = Row (λ column row. get_or (coverages_in (weights_of EvenOdd l.areas)) (column * 16 + row) nan) l.y l.initial.plane l.x l.plane
