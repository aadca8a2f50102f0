-- `four_high::ffi_gpu_pack` meets its contract: it tells what packing answers. Assumes nothing.
use Rattle.laws.proofs.Prelude.{to_z-of_z}
use Rattle.ffi.proofs.Told.{answered}
use Rattle.ffi.proofs.four_high.ffi_gpu_pack.Goals as goal

pub returns : goal.returns
returns c =
    let told = rw (to_z-of_z c.ranges.tile_x, to_z-of_z c.ranges.tile_y, to_z-of_z c.ranges.cover) at (answered c.args.word.now c.new-packed.ensures.answer (c.put_packed.ensures.value, c.put_packed.ensures.word_after)) in
    record { value = told.0; word_after = told.1 }
