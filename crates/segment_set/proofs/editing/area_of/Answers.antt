-- `editing::area_of` meets its contract. Assumes nothing.
use Rattle.std.specs.Prelude.{◌*ℤ◌}
use Rattle.laws.proofs.Prelude.{arith, pos, to_z-of_z, sfits_widen, w8, w16, SFits, within, sfits, times}
use Rattle.segment_set.proofs.editing.area_of.Goals as goal
use Rattle.segment_set.proofs.editing.area_of.Goals.{Start}

wide : (c : Start) → SFits w16 c.args.cover
wide c = sfits_widen tt c.ranges.cover

fits : (c : Start) → SFits w16 (pos 32 *ℤ c.args.cover)
fits c = sfits w16 (pos 32 *ℤ c.args.cover) (record { above = omega (arith, times 32 c.args.cover, within w8 c.args.cover c.ranges.cover); below = omega (arith, times 32 c.args.cover, within w8 c.args.cover c.ranges.cover) })

pub overflow_cast-result : goal.overflow_cast-result
overflow_cast-result c = rw (to_z-of_z c.ranges.cover) (wide c)

pub overflow_mul-result : goal.overflow_mul-result
overflow_mul-result c = rw (to_z-of_z c.ranges.cover, to_z-of_z (wide c)) (fits c)

pub returns : goal.returns
returns c = rw (to_z-of_z c.ranges.cover, to_z-of_z (wide c), to_z-of_z (fits c))
