-- `judge_records` meets its contract: the answers of `Verdicts`, in the order of the tests. Assumes nothing.
use Rattle.laws.proofs.Prelude.{sym, ◌∙◌, lt-ltb, le-ltb}
use Rattle.revision_statements.proofs.Verdicts.{says_4, says_15, says_1, says_pass}
use Rattle.revisions.proofs.judge_records.Goals as goal

pub returns-then-not-are_good : goal.returns-then-not-are_good
returns-then-not-are_good c = says_4 _ _ _ c.sent_room-n.ensures _ _ (sym (c.are_good.ensures _) ∙ c.if-not-are_good.true)

pub returns-then-counted-n : goal.returns-then-counted-n
returns-then-counted-n c =
    let good = sym (c.are_good.ensures _) ∙ c.if-not-are_good.false in
    says_15 _ _ _ c.sent_room-n.ensures _ _ good (c.count-counted.ensures.twins _ ∙ lt-ltb _ _ c.if-counted-n.true)

pub returns-then-is_short : goal.returns-then-is_short
returns-then-is_short c =
    let counts = c.count-counted.ensures in
    let good = sym (c.are_good.ensures _) ∙ c.if-not-are_good.false in
    let single = counts.twins _ ∙ le-ltb _ _ c.if-counted-n.false in
    says_1 _ _ _ c.sent_room-n.ensures _ _ good single (counts.stand _ single) (sym c.is_short.ensures ∙ c.if-is_short.true)

pub returns : goal.returns
returns c =
    let counts = c.count-counted.ensures in
    let good = sym (c.are_good.ensures _) ∙ c.if-not-are_good.false in
    let single = counts.twins _ ∙ le-ltb _ _ c.if-counted-n.false in
    says_pass _ _ _ c.sent_room-n.ensures _ _ good single (counts.stand _ single) (sym c.is_short.ensures ∙ c.if-is_short.false)
