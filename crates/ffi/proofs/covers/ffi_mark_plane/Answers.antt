-- `covers::ffi_mark_plane` meets its contract: it tells what marking answers. Assumes nothing.
use Rattle.ffi.proofs.Told.{answered}
use Rattle.ffi.proofs.covers.ffi_mark_plane.Goals as goal

pub returns : goal.returns
returns c =
    let told = answered c.args.mark.now c.mark_plane.ensures (c.put_mark.ensures.value, c.put_mark.ensures.mark_after) in
    record { value = told.0; mark_after = told.1 }
