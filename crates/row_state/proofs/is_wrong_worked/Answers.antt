-- `is_wrong_worked` meets its contract. Assumes nothing.
use Rattle.laws.proofs.Prelude.{rules, to_z-of_z}
use Rattle.row_state.proofs.is_wrong_worked.Goals as goal

pub returns : goal.returns
returns c = rw (c.is_stray.ensures, c.is_not_worked.ensures, to_z-of_z c.ranges.tile)
