-- `cached::put_settlement` meets its contract. Assumes nothing.
use Rattle.laws.proofs.Prelude.{refl}
use Rattle.ffi_numbers.proofs.cached.put_settlement.Goals as goal

pub returns-in-Write : goal.returns-in-Write
returns-in-Write c = rw c.in-Write.is (record { value = refl; is_written_after = refl; tile_after = c.put_kept.ensures })

pub returns-in-Keep : goal.returns-in-Keep
returns-in-Keep c = rw c.in-Keep.is (record { value = refl; is_written_after = refl; tile_after = c.put_kept-in-Keep.ensures })

pub returns-in-TagOutOfRange : goal.returns-in-TagOutOfRange
returns-in-TagOutOfRange c = rw c.in-TagOutOfRange.is (record { value = refl; is_written_after = refl; tile_after = refl })
