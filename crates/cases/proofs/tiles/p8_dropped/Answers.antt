-- P8, from the contracts. Assumes nothing.
use Rattle.laws.proofs.Prelude.{rules}
use Rattle.cases.proofs.tiles.p8_dropped.Goals as goal

pub returns : goal.returns
returns c = rw (
  c.update_layer_count-dropped.ensures.tile,
  c.update_layer_count-updated.ensures.tile,
  c.nothing_kept-tile.ensures,
)
