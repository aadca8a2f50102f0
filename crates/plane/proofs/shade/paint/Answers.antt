-- `plane::shade::paint` meets its contract. Assumes nothing.
use Rattle.plane.proofs.shade.paint.Goals as goal

pub paint_non_zero-requires : goal.paint_non_zero-requires
paint_non_zero-requires c = (c.requires.0, c.requires.1, c.requires.2)

pub paint_even_odd-requires : goal.paint_even_odd-requires
paint_even_odd-requires c = (c.requires.1, c.requires.2)

pub returns-in-NonZero : goal.returns-in-NonZero
returns-in-NonZero c = rw c.in-NonZero.is c.paint_non_zero.ensures

pub returns-in-EvenOdd : goal.returns-in-EvenOdd
returns-in-EvenOdd c = rw c.in-EvenOdd.is c.paint_even_odd.ensures
