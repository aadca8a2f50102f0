-- `is_good` meets its contract. Assumes nothing.
use Rattle.laws.proofs.Prelude.{ap, ◌∙◌, eq-eqb, ne_eqb}
use Rattle.layer_table.specs.Record.{in_range}
use Rattle.revision_statements.specs.Sent.{sent_at, is_good}
use Rattle.revisions.proofs.judging.is_good.Goals as goal

pub returns-then-kind-eq0 : goal.returns-then-kind-eq0
unfolding is_good sent_at
returns-then-kind-eq0 c = λ floats. rw (eq-eqb _ 0 c.if-kind-eq0.true) (c.is_in_range.ensures ∙ ap in_range c.words_at-words.ensures)

pub returns-else-kind-eq0 : goal.returns-else-kind-eq0
unfolding is_good sent_at
returns-else-kind-eq0 c = λ floats. rw (ne_eqb _ 0 c.if-kind-eq0.false, c.words_at-words.ensures)
