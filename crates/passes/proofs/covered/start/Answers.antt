-- `passes::covered::start` meets its contract. Assumes nothing.
use Rattle.passes.proofs.covered.start.Goals as goal

pub returns-then-removed : goal.returns-then-removed
returns-then-removed c = rw c.if-removed.true

pub returns-else-removed : goal.returns-else-removed
returns-else-removed c = rw (c.if-removed.false, c.are_clips_unchanged.ensures)
