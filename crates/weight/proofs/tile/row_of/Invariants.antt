use Rattle.std.specs.Prelude.{◌≡◌, ◌+◌, ◌*◌, ◌≤◌}
use Rattle.laws.proofs.Prelude.{filled, tabulate}
use Rattle.cover_statements.specs.Cover.{cover_at}
use Rattle.weight.proofs.tile.row_of.Given as goal

abbrev pub invariant-loop-x : goal.invariant-loop-x
invariant-loop-x l = (l.x ≤ 16) × (l.row ≡ filled l.initial.row (tabulate 16 (λ i. cover_at l.weights (i * l.rows + l.y))) l.x)
