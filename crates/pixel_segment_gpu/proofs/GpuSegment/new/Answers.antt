-- `GpuSegment::new` meets its contract: a case for each answer of packing. Assumes nothing.
use Rattle.std.proofs.lemmas.Result.{err_from_is_err_and}
use Rattle.laws.proofs.Prelude.{to_z-of_z}
use Rattle.pixel_segment_gpu.proofs.GpuSegment.new.Goals as goal

pub returns-in_err-segment : goal.returns-in_err-segment
returns-in_err-segment c =
    let f = c.ranges in
    let p = err_from_is_err_and c.from_residual.result c.from_residual.ensures.1 in
    rw (p.1, p.2) (rw (to_z-of_z f.tile_x, to_z-of_z f.tile_y, to_z-of_z f.cover) at c.in_err-segment.ensures)

pub returns : goal.returns
returns c =
    let f = c.ranges in
    rw (to_z-of_z f.tile_x, to_z-of_z f.tile_y, to_z-of_z f.cover) at c.in_ok-segment.ensures
