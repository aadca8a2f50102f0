-- P8, from the contracts. Assumes nothing.
use Rattle.laws.proofs.Prelude.{rules}
use Rattle.cases.proofs.tiles.p8_in_place.Goals as goal

pub returns : goal.returns
returns c = rw (
  c.is_count.ensures,
  c.layer_count.ensures,
  c.is_no_count.ensures,
  c.count_in_place-updated.ensures.previous,
  c.count_in_place-updated.ensures.tile,
  c.nothing_kept-tile.ensures,
)
