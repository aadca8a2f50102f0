-- `working::put_worked` meets its contract. Assumes nothing.
use Rattle.laws.proofs.Prelude.{refl}
use Rattle.ffi.proofs.working.put_worked.Goals as goal

pub returns-in-Err : goal.returns-in-Err
returns-in-Err c =
    rw c.in-Err.is (record { value = c.number_of.ensures; bottom_after = refl })

pub returns-in-Ok : goal.returns-in-Ok
returns-in-Ok c =
    let state = c.put_state.ensures in
    let kept = c.put_kept.ensures in
    let done = c.put_done.ensures in
    rw c.in-Ok.is
    (record { value = refl; bottom_after = λ i. record { words = state.words_after i; counts = state.counts_after i; kept = kept i; told = done.told_after i; bottom = done.bottom_after i } })
