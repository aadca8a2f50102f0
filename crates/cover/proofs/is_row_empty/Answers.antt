-- `cover::is_row_empty` meets its contract. Assumes nothing.
use Rattle.laws.proofs.Prelude.{to_z-of_z}
use Rattle.cover.proofs.is_row_empty.Goals as goal

pub returns-in-NonZero : goal.returns-in-NonZero
returns-in-NonZero c =
    rw (c.in-NonZero.is, c.cover_magnitude.ensures.0, to_z-of_z c.ranges.cover)

pub returns-in-EvenOdd : goal.returns-in-EvenOdd
returns-in-EvenOdd c =
    rw (c.in-EvenOdd.is, c.rest_of_cover.ensures, to_z-of_z c.ranges.cover)
