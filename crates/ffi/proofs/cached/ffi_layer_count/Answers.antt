-- `cached::ffi_layer_count` meets its contract: it tells what the tile keeps. Assumes nothing.
use Rattle.laws.proofs.Prelude.{ap, ◌∙◌}
use Rattle.cached_tile.specs.Tile.{layer_count_of}
use Rattle.ffi.proofs.Told.{optional}
use Rattle.ffi.proofs.cached.ffi_layer_count.Goals as goal

pub returns : goal.returns
returns c =
    let told = optional
    c.args.count.now
    (c.layer_count.ensures ∙ ap layer_count_of c.to_tile.ensures)
    (c.put_count.ensures.value, c.put_count.ensures.count_after) in
    record { value = told.0; count_after = told.1 }
