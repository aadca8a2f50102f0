-- `four_high_rows::ffi_gpu_work_tiles` meets its contract: it tells what the range answers. Assumes nothing.
use Rattle.laws.proofs.Prelude.{to_z-of_z}
use Rattle.layer_row_gpu.specs.WorkTiles.{tiles_choice}
use Rattle.ffi_four_high.proofs.FourHighTold.{tiles_worked}
use Rattle.ffi.proofs.four_high_rows.ffi_gpu_work_tiles.Goals as goal

pub returns : goal.returns
returns c =
    let e = c.put_tiles.ensures in
    let a = c.args in
    tiles_worked (tiles_choice a.tile a.tiles a.row.now a.planes.now) c.to_layer_row-state.ensures (rw (to_z-of_z c.ranges.tile) at c.work_tiles-worked.ensures) (e.value, λ i. record { state = e.covers_after i; done = e.done_after i })
