-- P9, from the contracts. Assumes nothing.
use Rattle.laws.proofs.Prelude.{◌∙◌, rules, eq, of_bits}
use Rattle.cases.proofs.Table.{cases}
use Rattle.cases.proofs.covers.p9.Goals as goal

pub returns : goal.returns
unfolding eq of_bits
returns c = rw (c.doubled_area_to_coverage-half.ensures ∙ cases.p9_half, c.doubled_area_to_coverage-whole.ensures ∙ cases.p9_whole)
