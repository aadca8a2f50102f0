-- `judging::judge_keeping` meets its contract: a line for each condition, the lowest first. Assumes nothing.
use Rattle.laws.proofs.Prelude.{sym, ◌∙◌, arith}
use Rattle.refusals.proofs.Judging.{or_left, or_right}
use Rattle.kept_count.specs.Keeping.{keep_verdict}
use Rattle.kept_count.proofs.Verdicts.{room}
use Rattle.kept_count.proofs.judging.judge_keeping.Goals as goal

pub returns-then-is_short : goal.returns-then-is_short
unfolding keep_verdict
returns-then-is_short c = rw (← c.is_short.ensures, ← c.is_short-2.ensures, c.if-is_short.true)

pub are_kinds-requires : goal.are_kinds-requires
are_kinds-requires c =
    let a = c.args in
    let r = room a.last_ids.now a.last_kinds.now (sym c.is_short.ensures ∙ or_left _ _ c.if-is_short.false) in
    omega (arith, c.judged_count-old.ensures, r.kinds_long)

pub are_kinds-requires-2 : goal.are_kinds-requires-2
are_kinds-requires-2 c =
    let a = c.args in
    let r = room a.ids.now a.kinds.now (sym c.is_short-2.ensures ∙ or_right c.is_short.result c.is_short-2.result c.if-is_short.false) in
    omega (arith, c.judged_count-new.ensures, r.kinds_long)

pub returns-then-not-are_kinds : goal.returns-then-not-are_kinds
unfolding keep_verdict
returns-then-not-are_kinds c = rw (← c.is_short.ensures, ← c.is_short-2.ensures, c.if-is_short.false, ← c.judged_count-old.ensures, ← c.judged_count-new.ensures, ← c.are_kinds.ensures, ← c.are_kinds-2.ensures, c.if-not-are_kinds.true)

pub returns-then-not-is_queue : goal.returns-then-not-is_queue
unfolding keep_verdict
returns-then-not-is_queue c = rw (← c.is_short.ensures, ← c.is_short-2.ensures, c.if-is_short.false, ← c.judged_count-old.ensures, ← c.judged_count-new.ensures, ← c.are_kinds.ensures, ← c.are_kinds-2.ensures, c.if-not-are_kinds.false, ← c.is_queue.ensures, ← c.is_queue-2.ensures, c.if-not-is_queue.true)

pub returns-then-is_tag_out_of_range : goal.returns-then-is_tag_out_of_range
unfolding keep_verdict
returns-then-is_tag_out_of_range c = rw (← c.is_short.ensures, ← c.is_short-2.ensures, c.if-is_short.false, ← c.judged_count-old.ensures, ← c.judged_count-new.ensures, ← c.are_kinds.ensures, ← c.are_kinds-2.ensures, c.if-not-are_kinds.false, ← c.is_queue.ensures, ← c.is_queue-2.ensures, c.if-not-is_queue.false, ← c.is_tag_out_of_range.ensures, c.if-is_tag_out_of_range.true)

pub returns-then-last-n : goal.returns-then-last-n
unfolding keep_verdict
returns-then-last-n c = rw (← c.is_short.ensures, ← c.is_short-2.ensures, c.if-is_short.false, ← c.judged_count-old.ensures, ← c.judged_count-new.ensures, ← c.are_kinds.ensures, ← c.are_kinds-2.ensures, c.if-not-are_kinds.false, ← c.is_queue.ensures, ← c.is_queue-2.ensures, c.if-not-is_queue.false, ← c.is_tag_out_of_range.ensures, c.if-is_tag_out_of_range.false, c.if-last-n.true)

pub returns : goal.returns
unfolding keep_verdict
returns c = rw (← c.is_short.ensures, ← c.is_short-2.ensures, c.if-is_short.false, ← c.judged_count-old.ensures, ← c.judged_count-new.ensures, ← c.are_kinds.ensures, ← c.are_kinds-2.ensures, c.if-not-are_kinds.false, ← c.is_queue.ensures, ← c.is_queue-2.ensures, c.if-not-is_queue.false, ← c.is_tag_out_of_range.ensures, c.if-is_tag_out_of_range.false, c.if-last-n.false)
