-- `four_high::ffi_gpu_search_last_by_tile_y_not_negative` meets its contract: it tells what the search found. Assumes nothing.
use Rattle.ffi.proofs.Told.{searched}
use Rattle.ffi.proofs.four_high.ffi_gpu_search_last_by_tile_y_not_negative.Goals as goal

pub returns : goal.returns
returns c =
    let told = searched c.search_last_by_tile_y_not_negative.ensures (c.put_found.ensures.value, c.put_found.ensures.place_after) in
    record { value = told.0; place_after = told.1 }
