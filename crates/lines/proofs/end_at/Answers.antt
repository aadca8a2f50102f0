-- `end_at` meets its contract.
-- Assumes nothing.
use Rattle.lines.proofs.Starting.{space}
use Rattle.lines.proofs.end_at.Goals as goal

pub returns-else-left-eq0 : goal.returns-else-left-eq0
returns-else-left-eq0 c = space _ c.if-left-eq0.false
