-- `four_high` meets its contract: the theorems, cited. Assumes nothing.
use Rattle.layer_row_gpu.proofs.Runs.{layer_row}
use Rattle.layer_row_gpu.proofs.LayerExample.{ran}
use Rattle.layer_row_gpu.proofs.Alike.{rows_apart}
use Rattle.cover_statements.proofs.Sums.{sums_anywhere, sums_at_both}
use Rattle.ffi_four_high.proofs.FourHighCalls.{numbers, exist}
use Rattle.claims.proofs.four_high.Goals as goal

pub returns : goal.returns
returns c = (layer_row, ran, numbers, exist, rows_apart, sums_anywhere, sums_at_both)
