-- The weight of d, a whole number from 0 to 512, by each rule; and which windings are inside, as SVG 2 says of 'fill-rule'.
use Rattle.std.specs.Prelude.{◌%◌}
use Rattle.laws.specs.Prelude.{Bool, not, ℕ, min, eqb, ℤ, nat_abs, modℤ}
use Rattle.weight_table.specs.Rest.{rest_weight}
use Rattle.styling.specs.declared.FillRule.{FillRule}
use Rattle.styling.specs.declared.FillRule.TheVariants.{NonZero, EvenOdd}

-- NonZero: the lesser of |d| and 512
abbrev pub non_zero_of : ℤ → ℕ
non_zero_of d = min (nat_abs d) 512

-- EvenOdd: 512 - |(d mod 1,024) - 512|, the remainder being 0 to 1,023
abbrev pub even_odd_of : ℤ → ℕ
even_odd_of d = rest_weight (modℤ 1024 d)

abbrev pub weight_of : FillRule → ℤ → ℕ
weight_of NonZero d = non_zero_of d
weight_of EvenOdd d = even_odd_of d

-- SVG 2, 'fill-rule', of a point with winding k: nonzero, it is outside where k is 0 and else inside; evenodd, it is inside where a ray
-- crosses an odd number of segments, which is where k is odd
abbrev pub is_inside : FillRule → ℤ → Bool
is_inside NonZero k = not (eqb (nat_abs k) 0)
is_inside EvenOdd k = eqb (nat_abs k % 2) 1
