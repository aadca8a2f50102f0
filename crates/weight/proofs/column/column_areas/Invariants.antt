use Rattle.std.specs.Prelude.{◌*ℤ◌}
use Rattle.laws.proofs.Prelude.{pos}
use Rattle.cover_statements.proofs.Mapped.{Mapping}
use Rattle.weight.proofs.column.column_areas.Given as goal

abbrev pub invariant-loop-y : goal.invariant-loop-y
invariant-loop-y l = Mapping (λ cover. pos 32 *ℤ cover) l.covers l.initial.areas l.y l.areas
