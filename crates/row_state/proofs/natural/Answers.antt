-- `natural` meets its contract. Assumes nothing.
use Rattle.laws.proofs.Prelude.{rules, to_z-of_z}
use Rattle.row_state.proofs.natural.Goals as goal

pub returns : goal.returns
returns c = rw (c.natural.ensures, to_z-of_z c.ranges.z)
