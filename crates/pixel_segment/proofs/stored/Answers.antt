-- `stored` meets its contract. Assumes nothing.
use Rattle.std.specs.Prelude.{◌≡◌}
use Rattle.laws.proofs.Prelude.{arith, pos, w16, w64, to_z-of_z, minus, added, whole, lt_true, lt_false, within, unsigned}
use Rattle.pixel_segment.proofs.stored.Goals as goal
use Rattle.pixel_segment.proofs.stored.Goals.{Else-tile-lt0}

not_negative_lem : (c : Else-tile-lt0) → minus c.args.tile ≡ 0
not_negative_lem c =
    let z = c.args.tile in
    omega (arith, whole z, lt_false z (pos 0) (rw (to_z-of_z c.ranges.tile) at c.if-tile-lt0.false))

pub overflow_cast-result : goal.overflow_cast-result
overflow_cast-result c =
    let z = c.args.tile in
    let h = within w16 z c.ranges.tile in
    rw (to_z-of_z c.ranges.tile) (unsigned w64 z (not_negative_lem c) (omega arith))

pub overflow_add-result : goal.overflow_add-result
overflow_add-result c =
    let z = c.args.tile in
    let h = within w16 z c.ranges.tile in
    rw (to_z-of_z c.ranges.tile) (omega (arith, not_negative_lem c, whole z))

pub returns-then-tile-lt0 : goal.returns-then-tile-lt0
returns-then-tile-lt0 c =
    let z = c.args.tile in
    omega (arith, added z (pos 1), lt_true z (pos 0) (rw (to_z-of_z c.ranges.tile) at c.if-tile-lt0.true))

pub returns-else-tile-lt0 : goal.returns-else-tile-lt0
returns-else-tile-lt0 c =
    let z = c.args.tile in
    rw (to_z-of_z c.ranges.tile) (omega (arith, not_negative_lem c, added z (pos 1)))
