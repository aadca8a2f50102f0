-- `listing::put_listed` meets its contract. Assumes nothing.
use Rattle.laws.proofs.Prelude.{refl}
use Rattle.ffi.proofs.listing.put_listed.Goals as goal

pub returns-in-Err : goal.returns-in-Err
returns-in-Err c =
    rw c.in-Err.is (record { value = c.number_of.ensures; listed_after = refl })

pub returns-in-Ok : goal.returns-in-Ok
returns-in-Ok c =
    let state = c.put_state.ensures in
    rw c.in-Ok.is (record { value = refl; listed_after = λ i. record { words = state.words_after i; counts = state.counts_after i; listed = c.in-Ok.n } })
