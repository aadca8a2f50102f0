-- `cover::rows::are_light` meets its contract. Assumes nothing.
use Rattle.std.specs.Prelude.{◌≡◌}
use Rattle.laws.proofs.Prelude.{arith, length}
use Rattle.cover_statements.specs.InnerLoad.{all_light}
use Rattle.cover_statements.proofs.Testing.{test_end}
use Rattle.cover.proofs.rows.are_light.Goals as goal
use Rattle.cover.proofs.rows.are_light.Goals.{In-loop-load}

pub returns : goal.returns
unfolding all_light
returns c =
    let s = c.loop-load in
    let e : s.load-index ≡ length c.args.loads.now = omega (arith, s.invariant.1.reached) in
    rw e at (test_end s.invariant.1 (omega arith))
