use Rattle.std.specs.Prelude.{◌≡◌}
use Rattle.kept_count.specs.Keeping.{are_kinds}
use Rattle.kept_count.proofs.judging.are_kinds.Given as goal

abbrev pub invariant-loop-kind : goal.invariant-loop-kind
invariant-loop-kind l = l.ok ≡ are_kinds l.kinds l.kind-index
