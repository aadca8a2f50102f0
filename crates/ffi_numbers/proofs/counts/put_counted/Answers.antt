-- `counts::put_counted` meets its contract. Assumes nothing.
use Rattle.laws.proofs.Prelude.{refl, true, false}
use Rattle.ffi_numbers.proofs.counts.put_counted.Goals as goal

pub returns-in-Refused : goal.returns-in-Refused
returns-in-Refused c = rw c.in-Refused.is (record { value = c.number_of.ensures; stays_after = refl })

pub returns-in-Stays : goal.returns-in-Stays
returns-in-Stays c = rw c.in-Stays.is (record { value = refl; stays_after = λ i. record { kept = c.put_kept.ensures i; stays = true } })

pub returns-in-Dropped : goal.returns-in-Dropped
returns-in-Dropped c = rw c.in-Dropped.is (record { value = refl; stays_after = λ i. record { kept = c.put_kept-in-Dropped.ensures i; stays = false } })
