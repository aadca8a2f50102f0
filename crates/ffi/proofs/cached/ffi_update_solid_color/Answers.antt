-- `cached::ffi_update_solid_color` meets its contract: it tells what the tile kept, and what it keeps now. Assumes nothing.
use Rattle.laws.proofs.Prelude.{ap, ◌∙◌}
use Rattle.cached_tile.specs.Tile.{solid_color_of}
use Rattle.ffi_numbers.specs.Cached.{tile_bytes}
use Rattle.ffi.proofs.Told.{colored}
use Rattle.ffi.proofs.cached.ffi_update_solid_color.Goals as goal

pub returns : goal.returns
returns c =
    let updated = c.update_solid_color-updated.ensures in
    let tile = c.to_tile.ensures in
    let told =
    colored c.args.previous.now (updated.previous ∙ ap solid_color_of tile) (c.put_color.ensures.value, c.put_color.ensures.color_after) in
    record { value = told.0; previous_after = told.1; tile_after = c.to_bytes.ensures ∙ ap tile_bytes (rw tile at updated.tile) }
