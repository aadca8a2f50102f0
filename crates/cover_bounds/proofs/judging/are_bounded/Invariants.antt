use Rattle.cover_bounds_statements.specs.Within.{bound_at, is_bounded}
use Rattle.cover_bounds_statements.proofs.Loops.{Passing}
use Rattle.cover_bounds.proofs.judging.are_bounded.Given as goal

abbrev pub invariant-loop-i : goal.invariant-loop-i
invariant-loop-i l = Passing l.count (λ j. is_bounded (bound_at 0 l.bounds j) (bound_at 1 l.bounds j)) l.i l.ok
