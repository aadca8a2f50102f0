-- `weight::tile::row_of` meets its contract. Assumes nothing.
use Rattle.std.specs.Prelude.{◌+◌, ◌*◌}
use Rattle.laws.proofs.Prelude.{ℕ, arith, ℤ, pos, replicate, length-replicate, w16, kept}
use Rattle.laws.proofs.Prelude.{filled_more, length_tabulate, get_d_tabulate, tabulate}
use Rattle.cover_statements.specs.Cover.{cover_at}
use Rattle.weight.proofs.tile.row_of.Goals as goal

pub loop-x-preserved : goal.loop-x-preserved
loop-x-preserved c =
    let f : ℕ → ℤ = λ i. cover_at c.args.weights.now (i * c.args.rows + c.args.y) in
    let x = c.loop-x.x in (
      omega arith,
      rw (kept w16 (f x) (omega arith), c.loop-x.invariant.1, ← (get_d_tabulate 16 f (pos 0) x (omega arith)))
          (filled_more (replicate 16 (pos 0)) (tabulate 16 f) x (pos 0) (omega (arith, length-replicate 16 (pos 0))) (omega (arith, length_tabulate 16 f))),
    )
