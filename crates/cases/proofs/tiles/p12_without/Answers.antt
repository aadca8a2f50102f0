-- P12, from the contracts. Assumes nothing.
use Rattle.laws.proofs.Prelude.{rules}
use Rattle.cases.proofs.tiles.p12_without.Goals as goal

pub returns : goal.returns
returns c = rw (c.is_write.ensures, c.settle-settled.ensures.settlement, c.absent.ensures)
