-- P12, from the contracts. Assumes nothing.
use Rattle.laws.proofs.Prelude.{rules}
use Rattle.cases.proofs.tiles.p12.Goals as goal

pub returns : goal.returns
returns c = rw (
  c.is_keep.ensures,
  c.is_write.ensures,
  c.settle-second.ensures.settlement,
  c.settle-first.ensures.settlement,
  c.settle-first.ensures.kept,
  c.nothing_kept-tile.ensures,
)
