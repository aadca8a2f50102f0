-- `rows::put_state` meets its contract.  Assumes nothing.
use Rattle.laws.proofs.Prelude.{refl}
use Rattle.ffi_numbers.proofs.rows.put_state.Goals as goal

pub returns : goal.returns
returns c = rw (c.clip_flag.ensures, c.clip_last.ensures) (record { words_after = refl; counts_after = refl })
