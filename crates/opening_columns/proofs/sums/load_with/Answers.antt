-- `opening_columns::sums::load_with` meets its contract. Assumes nothing.
use Rattle.laws.proofs.Prelude.{arith, to_z-of_z}
use Rattle.opening_columns.proofs.sums.load_with.Goals as goal

pub returns : goal.returns
returns c = omega (arith, rw (to_z-of_z c.ranges.cover) at c.cover_magnitude.ensures.0)
