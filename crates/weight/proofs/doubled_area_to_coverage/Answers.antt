-- `weight::doubled_area_to_coverage` meets its contract. Assumes nothing.
use Rattle.std.specs.Prelude.{◌≡◌}
use Rattle.laws.proofs.Prelude.{ap, ◌∙◌, to_z-of_z}
use Rattle.cover_statements.specs.Coverage.{coverage_of}
use Rattle.cover_statements.specs.Weight.{weight_of}
use Rattle.cover_statements.proofs.Weights.{weight_le}
use Rattle.weight.proofs.doubled_area_to_coverage.Goals as goal
use Rattle.weight.proofs.doubled_area_to_coverage.Goals.{After-weight}

weight_is : (c : After-weight) → c.weight.result ≡ weight_of c.args.rule c.args.d
weight_is c = rw (to_z-of_z c.ranges.d) at c.weight.ensures

pub coverage-requires : goal.coverage-requires
coverage-requires c = rw (weight_is c) (weight_le c.args.rule c.args.d)

pub returns : goal.returns
returns c = c.coverage.ensures ∙ ap coverage_of (weight_is (goal.at.returns c).After-weight)
