use Rattle.cover_statements.specs.Cover.{cover_at}
use Rattle.cover_bounds_statements.specs.Chosen.{heavier}
use Rattle.cover_bounds_statements.proofs.Loops.{Placing}
use Rattle.cover_bounds.proofs.judging.heavier_carry.Given as goal

abbrev pub invariant-loop-y : goal.invariant-loop-y
invariant-loop-y l = Placing 16 (λ r. heavier (cover_at l.lows r) (cover_at l.highs r)) l.initial.covers l.y l.covers
