-- `four_high::ffi_gpu_carry` meets its contract: it tells what adding answers. Assumes nothing.
use Rattle.ffi.proofs.Told.{answered}
use Rattle.ffi.proofs.four_high.ffi_gpu_carry.Goals as goal

pub returns : goal.returns
returns c =
    let told = answered
    c.args.covers.now
    c.carry.ensures.answer
    (c.put_carried.ensures.value, c.put_carried.ensures.covers_after) in
    record { value = told.0; covers_after = told.1 }
