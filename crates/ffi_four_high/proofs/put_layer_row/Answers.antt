-- `put_layer_row` meets its contract. Assumes nothing.
use Rattle.laws.proofs.Prelude.{refl}
use Rattle.ffi_four_high.proofs.put_layer_row.Goals as goal

pub returns-in-Err : goal.returns-in-Err
returns-in-Err c = rw c.in-Err.is (record { value = c.number_of.ensures; covers_after = refl })

pub returns-in-Ok : goal.returns-in-Ok
returns-in-Ok c = rw (c.in-Ok.is, c.rule_code.ensures) (record { value = refl; covers_after = refl })
