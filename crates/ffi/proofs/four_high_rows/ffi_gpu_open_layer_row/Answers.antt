-- `four_high_rows::ffi_gpu_open_layer_row` meets its contract: it tells what opening answers. Assumes nothing.
use Rattle.laws.proofs.Prelude.{to_z-of_z}
use Rattle.ffi_four_high.proofs.FourHighTold.{layer_opened}
use Rattle.ffi.proofs.four_high_rows.ffi_gpu_open_layer_row.Goals as goal

pub returns : goal.returns
returns c =
    layer_opened
    (rw (to_z-of_z c.ranges.tile_y, to_z-of_z c.ranges.from, to_z-of_z c.ranges.to) at c.open_layer_row-opened.ensures)
    (c.put_layer_row.ensures.value, c.put_layer_row.ensures.covers_after)
