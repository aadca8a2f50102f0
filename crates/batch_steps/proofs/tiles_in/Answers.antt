-- `tiles_in` meets its contract. Assumes nothing.
use Rattle.laws.proofs.Prelude.{rules}
use Rattle.batch_steps.proofs.tiles_in.Goals as goal

pub least-tiles-requires : goal.least-tiles-requires
least-tiles-requires c = search rules

pub least-requires : goal.least-requires
least-requires c = search rules

pub returns-then-keeps : goal.returns-then-keeps
returns-then-keeps c = rw (c.least.ensures, c.least-tiles.ensures, c.if-keeps.true)

pub returns-else-keeps : goal.returns-else-keeps
returns-else-keeps c = rw (c.least-tiles.ensures, c.if-keeps.false)
