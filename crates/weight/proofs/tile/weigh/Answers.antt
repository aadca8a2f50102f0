-- `weight::tile::weigh` meets its contract. Assumes nothing.
use Rattle.weight.proofs.tile.weigh.Goals as goal

pub returns-in-NonZero : goal.returns-in-NonZero
returns-in-NonZero c = rw c.in-NonZero.is c.weigh_non_zero.ensures

pub returns-in-EvenOdd : goal.returns-in-EvenOdd
returns-in-EvenOdd c = rw c.in-EvenOdd.is c.weigh_even_odd.ensures
