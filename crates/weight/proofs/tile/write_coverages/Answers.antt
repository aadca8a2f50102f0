-- `weight::tile::write_coverages` meets its contract. Assumes nothing.
use Rattle.laws.proofs.Prelude.{arith, pos, get_or, w16, kept}
use Rattle.cover_statements.proofs.Mapped.{map_next, map_end}
use Rattle.weight.proofs.tile.write_coverages.Goals as goal

pub loop-k-preserved : goal.loop-k-preserved
loop-k-preserved c =
    map_next c.loop-k.invariant (pos 0) (omega arith)
    (rw (kept w16 (get_or c.args.weights.now c.loop-k.k (pos 0)) (omega arith)) at c.coverage.ensures)

pub returns : goal.returns
returns c = map_end c.loop-k.invariant (omega arith)
