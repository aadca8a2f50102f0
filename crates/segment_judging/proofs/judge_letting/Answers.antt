-- `judge_letting` meets its contract. Assumes nothing.
use Rattle.laws.proofs.Prelude.{lt-ltb, le-ltb}
use Rattle.segment_set_statements.specs.InnerSpread.{let_verdict_by}
use Rattle.segment_judging.proofs.judge_letting.Goals as goal

pub returns-then-areas-lt256 : goal.returns-then-areas-lt256
unfolding let_verdict_by
returns-then-areas-lt256 c = rw (lt-ltb _ _ c.if-areas-lt256.true)

pub returns-then-not-is_here : goal.returns-then-not-is_here
unfolding let_verdict_by
returns-then-not-is_here c = rw (le-ltb _ _ c.if-areas-lt256.false, ← c.is_here.ensures, c.if-not-is_here.true)

pub returns-then-not-is_held : goal.returns-then-not-is_held
unfolding let_verdict_by
returns-then-not-is_held c = rw (le-ltb _ _ c.if-areas-lt256.false, ← c.is_here.ensures, c.if-not-is_here.false, c.if-not-is_held.true)

pub returns : goal.returns
unfolding let_verdict_by
returns c = rw (le-ltb _ _ c.if-areas-lt256.false, ← c.is_here.ensures, c.if-not-is_here.false, c.if-not-is_held.false)
