-- `counts::ffi_keep_count` meets its contract. It tells what `keep_count` answers. Assumes nothing.
use Rattle.ffi.proofs.Told.{counted}
use Rattle.ffi.proofs.counts.ffi_keep_count.Goals as goal

pub returns : goal.returns
returns c =
    let tile = c.to_tile.ensures in
    counted (rw tile at c.keep_count-done.ensures) (c.put_counted.ensures.value, c.put_counted.ensures.stays_after)
