-- `deciding::put_decided` meets its contract. Assumes nothing.
use Rattle.std.specs.Prelude.{◌∷◌}
use Rattle.laws.proofs.Prelude.{refl, []}
use Rattle.ffi.proofs.deciding.put_decided.Goals as goal

pub returns-in-Err : goal.returns-in-Err
returns-in-Err c =
    rw c.in-Err.is (record { value = c.number_of.ensures; bottom_after = refl })

pub returns-in-Ok : goal.returns-in-Ok
returns-in-Ok c =
    let skipped = c.in-Ok.skipped in
    rw c.in-Ok.is
    (record { value = refl; bottom_after = λ i. record { kept = c.put_kept.ensures i; told = c.code_of.ensures i ∷ c.before_of.ensures i ∷ skipped.0 ∷ []; bottom = c.put_bottom.ensures i } })
