-- `four_high::ffi_gpu_search_last_by_tile_x_at_least` meets its contract: it tells what the search found. Assumes nothing.
use Rattle.laws.proofs.Prelude.{to_z-of_z}
use Rattle.ffi.proofs.Told.{searched}
use Rattle.ffi.proofs.four_high.ffi_gpu_search_last_by_tile_x_at_least.Goals as goal

pub returns : goal.returns
returns c =
    let told = rw (to_z-of_z c.ranges.start) at (searched c.search_last_by_tile_x_at_least.ensures (c.put_found.ensures.value, c.put_found.ensures.place_after)) in
    record { value = told.0; place_after = told.1 }
