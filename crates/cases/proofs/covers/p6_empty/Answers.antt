-- P6, from the contracts. Assumes nothing.
use Rattle.laws.proofs.Prelude.{◌∙◌, rules}
use Rattle.cases.proofs.Table.{cases}
use Rattle.cases.proofs.covers.p6_empty.Goals as goal

pub returns : goal.returns
returns c = rw (c.is_empty.ensures ∙ cases.p6_empty, c.is_empty-2.ensures ∙ cases.p6_not_empty)
