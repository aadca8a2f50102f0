use Rattle.laws.proofs.Prelude.{nan, get_or}
use Rattle.cover_statements.specs.InnerWeighed.{coverages_in}
use Rattle.cover_statements.proofs.PlaneRows.{Row}
use Rattle.weight.proofs.tile.write_row.Given as goal

abbrev pub invariant-loop-x : goal.invariant-loop-x
invariant-loop-x l = Row (λ column line. get_or (coverages_in l.row) column nan) l.y l.initial.plane l.x l.plane
