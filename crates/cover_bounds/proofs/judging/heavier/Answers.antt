-- `judging::heavier` meets its contract. Assumes nothing.
use Rattle.std.specs.Prelude.{◌≤◌, ◌<◌}
use Rattle.laws.proofs.Prelude.{arith, le-leb, lt-leb, nat_abs, to_z-of_z}
use Rattle.cover_bounds.proofs.judging.heavier.Goals as goal

pub returns-then-cover_magnitude : goal.returns-then-cover_magnitude
returns-then-cover_magnitude c =
    let a = rw (to_z-of_z c.ranges.a) at c.cover_magnitude.ensures.0 in
    let b = rw (to_z-of_z c.ranges.b) at c.cover_magnitude-2.ensures.0 in
    let h : nat_abs c.args.a ≤ nat_abs c.args.b = omega (arith, a, b, c.if-cover_magnitude.true) in
    rw (le-leb (nat_abs c.args.a) (nat_abs c.args.b) h) (to_z-of_z c.ranges.b)

pub returns-else-cover_magnitude : goal.returns-else-cover_magnitude
returns-else-cover_magnitude c =
    let a = rw (to_z-of_z c.ranges.a) at c.cover_magnitude.ensures.0 in
    let b = rw (to_z-of_z c.ranges.b) at c.cover_magnitude-2.ensures.0 in
    let h : nat_abs c.args.b < nat_abs c.args.a = omega (arith, a, b, c.if-cover_magnitude.false) in
    rw (lt-leb (nat_abs c.args.a) (nat_abs c.args.b) h) (to_z-of_z c.ranges.a)
