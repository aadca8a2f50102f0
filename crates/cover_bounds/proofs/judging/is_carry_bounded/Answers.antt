-- `judging::is_carry_bounded` meets its contract. Assumes nothing.
use Rattle.laws.proofs.Prelude.{arith}
use Rattle.cover_bounds_statements.proofs.Loops.{pass_end}
use Rattle.cover_bounds.proofs.judging.is_carry_bounded.Goals as goal

pub returns : goal.returns
returns c = pass_end c.loop-y.invariant (omega arith)
