-- How the code finds the least and the greatest weight of an interval: by its ends, and by whether it has a number of weight 0 or 512 in between.
-- proofs/Ends shows that these are the weights of the walk.
use Rattle.std.specs.Prelude.{◌&&◌, ◌||◌, ◌+◌, ◌+ℤ◌}
use Rattle.laws.specs.Prelude.{Bool, cond, ℕ, min, max, eqb, leb, ℤ, pos, le_z, modℤ}
use Rattle.styling.specs.declared.FillRule.{FillRule}
use Rattle.styling.specs.declared.FillRule.TheVariants.{NonZero, EvenOdd}
use Rattle.cover_statements.specs.Weight.{weight_of}
use Rattle.cover_bounds_statements.specs.Interval.{distance}

-- 0 is one of the numbers from a to b
abbrev pub has_zero : ℤ → ℤ → Bool
has_zero a b = le_z a (pos 0) && le_z (pos 0) b

-- one of them, with `shift` added, is a multiple of 1,024: a + shift is one, or the next one is within reach
unfoldable pub has_multiple : ℕ → ℤ → ℤ → Bool
has_multiple shift a b = eqb (modℤ 1024 (a +ℤ pos shift)) 0 || leb 1024 (modℤ 1024 (a +ℤ pos shift) + distance a b)

-- a number of weight 0 lies between; a number of weight 512 that is found in no other way than by its remainder
abbrev pub has_none : FillRule → ℤ → ℤ → Bool
has_none NonZero a b = has_zero a b
has_none EvenOdd a b = has_multiple 0 a b

abbrev pub least_by_ends : FillRule → ℤ → ℤ → ℕ
least_by_ends rule a b = cond (has_none rule a b) 0 (min (weight_of rule a) (weight_of rule b))

-- the greater the absolute value the greater the NonZero weight, so the ends tell it
abbrev pub greatest_by_ends : FillRule → ℤ → ℤ → ℕ
greatest_by_ends NonZero a b = max (weight_of NonZero a) (weight_of NonZero b)
greatest_by_ends EvenOdd a b = cond (has_multiple 512 a b) 512 (max (weight_of EvenOdd a) (weight_of EvenOdd b))
