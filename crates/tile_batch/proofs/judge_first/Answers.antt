-- `judge_first` meets its contract. Assumes nothing.
use Rattle.laws.proofs.Prelude.{to_z-of_z}
use Rattle.tile_batch.proofs.judge_first.Goals as goal

pub returns-then-goes : goal.returns-then-goes
returns-then-goes c = rw c.if-goes.true (rw (c.is_short-short.ensures, to_z-of_z c.ranges.tile) at c.judge_row.ensures)

pub returns-else-goes : goal.returns-else-goes
returns-else-goes c = rw c.if-goes.false
