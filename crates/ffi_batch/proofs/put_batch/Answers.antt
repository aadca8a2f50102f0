-- `put_batch` meets its contract. Assumes nothing.
use Rattle.laws.proofs.Prelude.{refl}
use Rattle.ffi_batch.proofs.put_batch.Goals as goal

pub returns-in-Err : goal.returns-in-Err
returns-in-Err c = rw c.in-Err.is (record { value = c.number_of.ensures; done_after = refl })

pub returns-in-Ok : goal.returns-in-Ok
returns-in-Ok c =
    let done = c.put_done.ensures in
    rw c.in-Ok.is (record { value = refl; done_after = λ i. record { words = done.words_after i; counts = done.counts_after i; done = done.done_after i } })
