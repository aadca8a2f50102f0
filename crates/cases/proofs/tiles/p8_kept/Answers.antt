-- P8, from the contracts. Assumes nothing.
use Rattle.laws.proofs.Prelude.{rules}
use Rattle.cases.proofs.tiles.p8_kept.Goals as goal

pub returns : goal.returns
returns c = rw (
  c.is_count.ensures,
  c.layer_count.ensures,
  c.is_no_count.ensures,
  c.update_layer_count-updated.ensures.previous,
  c.update_layer_count-updated.ensures.tile,
  c.nothing_kept-tile.ensures,
)
