-- `layers::ffi_color_eq` meets its contract: the two colours are those of the numbers. Assumes nothing.
use Rattle.ffi.proofs.layers.ffi_color_eq.Goals as goal

pub returns : goal.returns
returns c = rw (c.eq.ensures, c.to_color-2.ensures, c.to_color.ensures)
