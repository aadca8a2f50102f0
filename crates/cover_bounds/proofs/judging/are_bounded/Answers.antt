-- `judging::are_bounded` meets its contract. Assumes nothing.
use Rattle.laws.proofs.Prelude.{arith, w8, kept}
use Rattle.cover_bounds_statements.proofs.Loops.{pass_next}
use Rattle.cover_bounds.proofs.judging.are_bounded.Goals as goal

pub loop-i-preserved : goal.loop-i-preserved
loop-i-preserved c =
    pass_next c.loop-i.invariant (omega arith)
    (rw (kept w8 c.bound_at.result c.bound_at.type_inv, kept w8 c.bound_at-in-loop-i.result c.bound_at-in-loop-i.type_inv, c.bound_at.ensures, c.bound_at-in-loop-i.ensures) at c.is_bounded-ok.ensures)
