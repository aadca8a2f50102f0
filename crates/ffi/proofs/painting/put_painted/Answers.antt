-- `painting::put_painted` meets its contract. Assumes nothing.
use Rattle.laws.proofs.Prelude.{refl}
use Rattle.ffi.proofs.painting.put_painted.Goals as goal

pub returns-in-Err : goal.returns-in-Err
returns-in-Err c =
    rw c.in-Err.is (record { value = c.number_of.ensures; mark_after = refl })

pub returns-in-Ok : goal.returns-in-Ok
returns-in-Ok c =
    let put = c.put_state.ensures in
    rw c.in-Ok.is (record { value = refl; mark_after = λ i. record { words = put.words_after i; counts = put.counts_after i; mark = c.in-Ok.octets } })
