-- `four_high::ffi_gpu_cmp` meets its contract: the rank of the order that `cmp` gives. Assumes nothing.
use Rattle.laws.proofs.Prelude.{◌∙◌}
use Rattle.ffi.proofs.four_high.ffi_gpu_cmp.Goals as goal

pub returns : goal.returns
returns c = c.rank_of.ensures ∙ c.cmp.ensures
