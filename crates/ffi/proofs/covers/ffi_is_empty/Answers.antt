-- `covers::ffi_is_empty` meets its contract: the rule of the number. Assumes nothing.
use Rattle.ffi.proofs.covers.ffi_is_empty.Goals as goal

pub returns : goal.returns
returns c = rw (c.is_empty.ensures, c.fill_rule.ensures)
