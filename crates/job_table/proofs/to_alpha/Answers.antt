-- `to_alpha` meets its contract: that the product with 1/256 is exact is one test over all 257 numbers. Assumes nothing.
use Rattle.std.specs.Prelude.{◌≡◌}
use Rattle.laws.proofs.Prelude.{arith, nat_abs, w16, to_z-of_z, plus, unsigned, whole}
use Rattle.job_statements.proofs.Alphas.{alpha_product}
use Rattle.job_table.proofs.to_alpha.Goals as goal

pub overflow_cast-result : goal.overflow_cast-result
overflow_cast-result c = rw (to_z-of_z c.ranges.v) (unsigned w16 c.args.v c.requires.0 (omega arith))

pub returns : goal.returns
returns c =
    let v = c.args.v in
    let e : nat_abs v ≡ plus v = omega (arith, whole v, c.requires.0) in
    rw (to_z-of_z c.ranges.v, e) (alpha_product (plus v) c.requires.1)
