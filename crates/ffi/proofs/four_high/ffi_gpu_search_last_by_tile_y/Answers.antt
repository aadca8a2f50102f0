-- `four_high::ffi_gpu_search_last_by_tile_y` meets its contract: it tells what the search found. Assumes nothing.
use Rattle.laws.proofs.Prelude.{to_z-of_z}
use Rattle.ffi.proofs.Told.{searched}
use Rattle.ffi.proofs.four_high.ffi_gpu_search_last_by_tile_y.Goals as goal

pub returns : goal.returns
returns c =
    let told = rw (to_z-of_z c.ranges.tile_y) at (searched c.search_last_by_tile_y.ensures (c.put_found.ensures.value, c.put_found.ensures.place_after)) in
    record { value = told.0; place_after = told.1 }
