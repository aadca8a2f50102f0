-- `judge_taking` meets its contract. Assumes nothing.
use Rattle.laws.proofs.Prelude.{lt-ltb, le-ltb}
use Rattle.segment_set_statements.specs.Set.{take_verdict}
use Rattle.segment_judging.proofs.judge_taking.Goals as goal

pub returns-then-areas-lt256 : goal.returns-then-areas-lt256
unfolding take_verdict
returns-then-areas-lt256 c = rw (lt-ltb _ _ c.if-areas-lt256.true)

pub returns-then-not-is_here : goal.returns-then-not-is_here
unfolding take_verdict
returns-then-not-is_here c = rw (le-ltb _ _ c.if-areas-lt256.false, ← c.is_here.ensures, c.if-not-is_here.true)

pub returns : goal.returns
unfolding take_verdict
returns c =
    rw (le-ltb _ _ c.if-areas-lt256.false, ← c.is_here.ensures, c.if-not-is_here.false, ← c.load_with.ensures) c.judge_load.ensures
