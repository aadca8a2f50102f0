-- `rows::put_opened` meets its contract.  Assumes nothing.
use Rattle.laws.proofs.Prelude.{refl}
use Rattle.ffi_numbers.proofs.rows.put_opened.Goals as goal

pub returns-in-Ok : goal.returns-in-Ok
returns-in-Ok c =
    let put = c.put_state.ensures in
    rw c.in-Ok.is (record { value = refl; counts_after = λ i. record { words = put.words_after i; counts = put.counts_after i } })

pub returns-in-Err : goal.returns-in-Err
returns-in-Err c = rw c.in-Err.is (record { value = c.number_of.ensures; counts_after = refl })
