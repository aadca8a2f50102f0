-- `end_of` meets its contract. Assumes nothing.
use Rattle.laws.proofs.Prelude.{le-leb, lt-leb}
use Rattle.batch_steps.proofs.end_of.Goals as goal

pub returns-then-tiles-worked : goal.returns-then-tiles-worked
returns-then-tiles-worked c = rw (le-leb _ _ c.if-tiles-worked.true)

pub returns-then-state : goal.returns-then-state
returns-then-state c = rw (lt-leb _ _ c.if-tiles-worked.false, le-leb _ _ c.if-state.true)

pub returns : goal.returns
returns c = rw (lt-leb _ _ c.if-tiles-worked.false, lt-leb _ _ c.if-state.false)
