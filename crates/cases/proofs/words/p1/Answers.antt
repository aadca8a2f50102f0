-- P1, from the contracts. Assumes nothing.
use Rattle.laws.proofs.Prelude.{◌∙◌, rules}
use Rattle.cases.proofs.Table.{cases}
use Rattle.cases.proofs.words.p1.Goals as goal

pub returns : goal.returns
returns c = rw (c.is_word.ensures, c.new.ensures.answer ∙ cases.p1)
