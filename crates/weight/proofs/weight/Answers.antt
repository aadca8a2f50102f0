-- `weight::weight` meets its contract. Assumes nothing.
use Rattle.laws.proofs.Prelude.{to_z-of_z}
use Rattle.weight.proofs.weight.Goals as goal

pub returns-in-NonZero : goal.returns-in-NonZero
returns-in-NonZero c = rw (c.in-NonZero.is, c.non_zero.ensures, to_z-of_z c.ranges.d)

pub returns-in-EvenOdd : goal.returns-in-EvenOdd
returns-in-EvenOdd c = rw (c.in-EvenOdd.is, c.even_odd.ensures, to_z-of_z c.ranges.d)
