-- `weight::even_odd` meets its contract. Assumes nothing.
use Rattle.laws.proofs.Prelude.{to_z-of_z}
use Rattle.weight.proofs.even_odd.Goals as goal

pub returns : goal.returns
returns c = rw (to_z-of_z c.ranges.d) at c.even_odd_in.ensures
