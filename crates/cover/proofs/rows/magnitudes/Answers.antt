-- `cover::rows::magnitudes` meets its contract. Assumes nothing.
use Rattle.laws.proofs.Prelude.{arith, w8, kept, get_or, pos}
use Rattle.cover_statements.proofs.Loads.{measure_next}
use Rattle.cover.proofs.rows.magnitudes.Goals as goal

pub loop-y-preserved : goal.loop-y-preserved
loop-y-preserved c =
    measure_next c.loop-y.invariant (omega arith)
    (rw (kept w8 (get_or c.args.covers.now c.loop-y.y (pos 0)) (omega arith)) at c.cover_magnitude.ensures.0)
    c.cover_magnitude.ensures.1
