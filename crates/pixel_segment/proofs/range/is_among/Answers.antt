-- `range::is_among` meets its contract: the number after the last is within 64 bits. Assumes nothing.
use Rattle.std.specs.Prelude.{◌≡◌, ◌+ℤ◌}
use Rattle.laws.proofs.Prelude.{arith, pos, w64, SFits, to_z, to_z-of_z, to_z_pos, added, within, sfits}
use Rattle.pixel_segment.proofs.range.is_among.Goals as goal
use Rattle.pixel_segment.proofs.range.is_among.Goals.{Start}

many_is : (c : Start) → to_z w64 c.args.n ≡ pos c.args.n
many_is c = to_z_pos w64 {n = c.args.n} (omega (arith, c.requires.1))

past : (c : Start) → SFits w64 (c.args.low +ℤ pos c.args.n)
past c =
    let low = c.args.low in
    let n = pos c.args.n in
    let h = within w64 low c.ranges.low in
    sfits w64 (low +ℤ n) (record { above = omega (arith, added low n, c.requires); below = omega (arith, added low n) })

pub overflow_cast-result : goal.overflow_cast-result
overflow_cast-result c = sfits w64 (pos c.args.n) (record { above = omega (arith, c.requires.1); below = omega arith })

pub overflow_add-result : goal.overflow_add-result
overflow_add-result c = rw (to_z-of_z c.ranges.low, many_is c) (past c)

pub returns : goal.returns
returns c = rw (to_z-of_z c.ranges.low, to_z-of_z c.ranges.v, many_is c, to_z-of_z (past c))
