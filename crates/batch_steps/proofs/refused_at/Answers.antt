-- `refused_at` meets its contract. Assumes nothing.
use Rattle.batch_steps.proofs.Rooms.{some_worked}
use Rattle.batch_steps.proofs.refused_at.Goals as goal

pub returns-then-worked-eq0 : goal.returns-then-worked-eq0
returns-then-worked-eq0 c = rw c.if-worked-eq0.true

pub returns : goal.returns
returns c = some_worked _ _ c.if-worked-eq0.false
