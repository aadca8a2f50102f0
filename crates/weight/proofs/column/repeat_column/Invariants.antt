use Rattle.laws.proofs.Prelude.{nan, length, get_or}
use Rattle.cover_statements.proofs.PlaneRows.{PlaneRows}
use Rattle.weight.proofs.column.repeat_column.Given as goal

abbrev pub invariant-loop-y : goal.invariant-loop-y
invariant-loop-y l = PlaneRows (length l.column) (λ x row. get_or l.column row nan) l.initial.plane l.y l.plane
