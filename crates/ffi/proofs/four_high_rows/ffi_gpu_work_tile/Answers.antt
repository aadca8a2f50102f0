-- `four_high_rows::ffi_gpu_work_tile` meets its contract: it tells what the work answers. Assumes nothing.
use Rattle.laws.proofs.Prelude.{to_z-of_z}
use Rattle.ffi_four_high.proofs.FourHighTold.{layer_worked}
use Rattle.ffi.proofs.four_high_rows.ffi_gpu_work_tile.Goals as goal

pub returns : goal.returns
returns c =
    layer_worked _ c.to_layer_row.ensures (rw (to_z-of_z c.ranges.tile) at c.work_tile-worked.ensures) (c.put_layer_row.ensures.value, c.put_layer_row.ensures.covers_after)
