-- `sets::ffi_take_in` meets its contract: it tells what taking in answers, and what it leaves. Assumes nothing.
use Rattle.ffi_sets.proofs.Told.{edited}
use Rattle.ffi.proofs.sets.ffi_take_in.Goals as goal

pub returns : goal.returns
returns c =
    edited (rw c.to_set-before.ensures at c.take_in-edited.ensures) (c.put_edited.ensures.value, c.put_edited.ensures.count_after)
