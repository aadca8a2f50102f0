-- `cached::ffi_update_layer_count` meets its contract: it tells what the tile kept, and what it keeps now. Assumes nothing.
use Rattle.laws.proofs.Prelude.{ap, ◌∙◌}
use Rattle.cached_tile.specs.Tile.{layer_count_of}
use Rattle.ffi_numbers.specs.Cached.{tile_bytes}
use Rattle.ffi.proofs.Told.{optional}
use Rattle.ffi.proofs.cached.ffi_update_layer_count.Goals as goal

pub returns : goal.returns
returns c =
    let updated = c.update_layer_count-updated.ensures in
    let tile = c.to_tile.ensures in
    let told =
    optional c.args.previous.now (updated.previous ∙ ap layer_count_of tile) (c.put_count.ensures.value, c.put_count.ensures.count_after) in
    record { value = told.0; previous_after = told.1; tile_after = c.to_bytes.ensures ∙ ap tile_bytes (rw (tile, c.count_if.ensures) at updated.tile) }
