-- `cached::ffi_settle` meets its contract: it tells what settling answers, and what the tile keeps now. Assumes nothing.
use Rattle.ffi.proofs.Told.{settled}
use Rattle.ffi.proofs.cached.ffi_settle.Goals as goal

pub returns : goal.returns
returns c =
    let done = c.settle-settled.ensures in
    let tile = c.to_tile.ensures in
    let a = c.args in
    let told = settled a.is_written.now a.tile.now (rw tile at done.settlement) (rw tile at done.kept) (c.put_settlement.ensures.value, (c.put_settlement.ensures.is_written_after, c.put_settlement.ensures.tile_after)) in
    record { value = told.0; is_written_after = told.1.0; tile_after = told.1.1 }
