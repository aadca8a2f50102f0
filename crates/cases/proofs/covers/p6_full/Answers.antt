-- P6, from the contracts. Assumes nothing.
use Rattle.laws.proofs.Prelude.{◌∙◌, rules}
use Rattle.cases.proofs.Table.{cases}
use Rattle.cases.proofs.covers.p6_full.Goals as goal

pub returns : goal.returns
returns c = rw (c.is_full.ensures ∙ cases.p6_full, c.is_full-2.ensures ∙ cases.p6_full_even_odd)
