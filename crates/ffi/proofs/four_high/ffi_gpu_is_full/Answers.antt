-- `four_high::ffi_gpu_is_full` meets its contract: the rule of the number. Assumes nothing.
use Rattle.ffi.proofs.four_high.ffi_gpu_is_full.Goals as goal

pub returns : goal.returns
returns c = rw (c.is_full.ensures, c.fill_rule.ensures)
