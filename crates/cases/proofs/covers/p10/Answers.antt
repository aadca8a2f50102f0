-- P10, from the contracts. Assumes nothing.
use Rattle.laws.proofs.Prelude.{◌∙◌, rules, eq, of_bits}
use Rattle.cases.proofs.Table.{cases}
use Rattle.cases.proofs.covers.p10.Goals as goal

pub returns : goal.returns
unfolding eq of_bits
returns c = rw (
  c.doubled_area_to_coverage-past.ensures ∙ cases.p10_past,
  c.doubled_area_to_coverage-half.ensures ∙ cases.p10_half,
  c.doubled_area_to_coverage-none.ensures ∙ cases.p10_none,
)
