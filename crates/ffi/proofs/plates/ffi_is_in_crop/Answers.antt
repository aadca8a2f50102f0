-- `plates::ffi_is_in_crop` meets its contract: the crop is the one of the numbers. Assumes nothing.
use Rattle.ffi.proofs.plates.ffi_is_in_crop.Goals as goal

pub returns : goal.returns
returns c = rw (c.is_in_crop.ensures, c.to_crop.ensures)
