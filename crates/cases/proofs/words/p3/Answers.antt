-- P3, from the contracts. Assumes nothing.
use Rattle.laws.proofs.Prelude.{◌∙◌, rules, pos}
use Rattle.cases.proofs.Table.{cases}
use Rattle.cases.proofs.words.p3.Goals as goal

pub returns : goal.returns
returns c = rw (
  c.is_word-near.ensures,
  c.new-2.ensures.answer ∙ cases.p3_passes,
  c.is_refused-far.ensures,
  c.new.ensures.answer ∙ cases.p3_refused (pos 5) (pos 0) (pos 3) (pos 4) (pos 32) (pos 16),
)
