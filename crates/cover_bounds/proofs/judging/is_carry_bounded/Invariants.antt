use Rattle.laws.proofs.Prelude.{le_z}
use Rattle.cover_statements.specs.Cover.{cover_at}
use Rattle.cover_bounds_statements.proofs.Loops.{Passing}
use Rattle.cover_bounds.proofs.judging.is_carry_bounded.Given as goal

abbrev pub invariant-loop-y : goal.invariant-loop-y
invariant-loop-y l = Passing 16 (λ r. le_z (cover_at l.lows r) (cover_at l.highs r)) l.y l.ok
