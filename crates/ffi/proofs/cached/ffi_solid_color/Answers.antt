-- `cached::ffi_solid_color` meets its contract: it tells what the tile keeps. Assumes nothing.
use Rattle.laws.proofs.Prelude.{ap, ◌∙◌}
use Rattle.cached_tile.specs.Tile.{solid_color_of}
use Rattle.ffi.proofs.Told.{colored}
use Rattle.ffi.proofs.cached.ffi_solid_color.Goals as goal

pub returns : goal.returns
returns c =
    let told = colored
    c.args.color.now
    (c.solid_color.ensures ∙ ap solid_color_of c.to_tile.ensures)
    (c.put_color.ensures.value, c.put_color.ensures.color_after) in
    record { value = told.0; color_after = told.1 }
