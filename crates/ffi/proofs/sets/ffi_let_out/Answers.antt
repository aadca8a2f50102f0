-- `sets::ffi_let_out` meets its contract: it tells what letting out answers, and what it leaves. Assumes nothing.
use Rattle.ffi_sets.proofs.Told.{edited}
use Rattle.ffi.proofs.sets.ffi_let_out.Goals as goal

pub returns : goal.returns
returns c =
    edited (rw c.to_set-before.ensures at c.let_out-edited.ensures) (c.put_edited.ensures.value, c.put_edited.ensures.count_after)
