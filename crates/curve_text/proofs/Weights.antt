-- What the curve says of every d, and where it is greatest.
-- Assumes nothing.
use Rattle.std.specs.Prelude.{◌≡◌, ◌%◌, ◌<◌}
use Rattle.laws.proofs.Prelude.{refl, ap, ℕ, arith, ℤ, pos, negsuc, modℤ, difference}
use Rattle.styling.specs.declared.FillRule.TheVariants.{EvenOdd}
use Rattle.weight_table.specs.Rest.{rest_weight}
use Rattle.cover_statements.specs.Weight.{weight_of}

-- the weight of d is the one beside its remainder
pub curve_of_d : (d : ℤ) → weight_of EvenOdd d ≡ weight_of EvenOdd (pos (modℤ 1024 d))
curve_of_d d = ap rest_weight (again d)
  where
    again : (d : ℤ) → modℤ 1024 d ≡ modℤ 1024 d % 1024
    again (pos n) = omega arith
    again (negsuc n) = omega arith

-- the greatest weight is 512, at 512 alone
pub at_512 : weight_of EvenOdd (pos 512) ≡ 512
at_512 = refl

pub greatest : (rest : ℕ) → rest < 1024 → (rest ≡ 512 → ⊥) → weight_of EvenOdd (pos rest) < 512
greatest rest h n =
    let same : rest % 1024 ≡ rest = omega arith in
    omega (arith, difference (rest % 1024) 512)
