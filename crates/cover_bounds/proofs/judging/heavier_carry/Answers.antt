-- `judging::heavier_carry` meets its contract. Assumes nothing.
use Rattle.laws.proofs.Prelude.{◌∙◌, arith, get_or, pos, w8, kept}
use Rattle.cover_bounds_statements.proofs.Loops.{place_next}
use Rattle.cover_bounds.proofs.judging.heavier_carry.Goals as goal

pub loop-y-preserved : goal.loop-y-preserved
loop-y-preserved c =
    place_next c.loop-y.invariant (omega arith)
    (kept w8 c.heavier.result c.heavier.type_inv
    ∙ rw (kept w8 (get_or c.args.low.covers c.loop-y.y (pos 0)) (omega arith), kept w8 (get_or c.args.high.covers c.loop-y.y (pos 0)) (omega arith)) at c.heavier.ensures)
