-- P6, from the contracts. Assumes nothing.
use Rattle.laws.proofs.Prelude.{◌∙◌, rules}
use Rattle.cases.proofs.Table.{cases}
use Rattle.cases.proofs.covers.p6_thrice.Goals as goal

pub returns : goal.returns
returns c = rw (c.is_full.ensures ∙ cases.p6_thrice, c.is_full-2.ensures ∙ cases.p6_thrice_even_odd)
