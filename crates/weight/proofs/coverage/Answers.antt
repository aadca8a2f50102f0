-- `weight::coverage` meets its contract: that the product with 1/512 is exact is one test over all 513 weights. Assumes nothing.
use Rattle.laws.proofs.Prelude.{rules}
use Rattle.cover_statements.proofs.Coverages.{coverage_product}
use Rattle.weight.proofs.coverage.Goals as goal

pub returns : goal.returns
returns c = coverage_product c.args.weight (search rules)
