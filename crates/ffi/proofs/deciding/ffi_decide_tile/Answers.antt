-- `deciding::ffi_decide_tile` meets its contract. It tells what the deciding answers. Assumes nothing.
use Rattle.ffi.proofs.Told.{decided}
use Rattle.ffi.proofs.deciding.ffi_decide_tile.Goals as goal

pub returns : goal.returns
returns c =
    decided (rw (c.to_tile.ensures, c.to_color.ensures, c.to_previous.ensures) at c.decide_tile-decided.ensures) (c.put_decided.ensures.value, c.put_decided.ensures.bottom_after)
