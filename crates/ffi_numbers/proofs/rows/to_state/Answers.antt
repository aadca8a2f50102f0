-- `rows::to_state` meets its contract. Assumes nothing.
use Rattle.laws.proofs.Prelude.{refl}
use Rattle.ffi_numbers.proofs.rows.to_state.Goals as goal

pub returns : goal.returns
returns c = rw c.to_clip.ensures refl
