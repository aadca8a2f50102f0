-- `interval::has_multiple` meets its contract. Assumes nothing.
use Rattle.laws.proofs.Prelude.{arith, to_z-of_z}
use Rattle.cover_bounds_statements.specs.InnerEnds.{has_multiple}
use Rattle.cover_bounds.proofs.interval.has_multiple.Goals as goal

pub overflow_add-result : goal.overflow_add-result
overflow_add-result c = omega (arith, c.rest_of-rest.ensures.1, c.distance.ensures.1)

pub returns : goal.returns
unfolding has_multiple
returns c =
    rw (rw (to_z-of_z c.ranges.a) at c.rest_of-rest.ensures.0, rw (to_z-of_z c.ranges.a, to_z-of_z c.ranges.b) at c.distance.ensures.0)
