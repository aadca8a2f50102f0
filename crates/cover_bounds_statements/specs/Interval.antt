-- The least and the greatest weight over all whole numbers of an interval, both ends included. Stands for W-211, 'the least and greatest weight over all
-- whole numbers between them, under both rules': a walk from the lowest number upward, one number after the other.
use Rattle.std.specs.Prelude.{◌≡◌, ◌≤◌, ◌+ℤ◌, ◌-ℤ◌}
use Rattle.laws.specs.Prelude.{true, ℕ, zero, suc, min, max, ℤ, pos, plus, is_within}
use Rattle.styling.specs.declared.FillRule.{FillRule}
use Rattle.cover_statements.specs.Weight.{weight_of}

-- over a, a + 1, .., a + n
abbrev pub least_over : FillRule → ℤ → ℕ → ℕ
least_over rule a zero = weight_of rule a
least_over rule a (suc n) = min (least_over rule a n) (weight_of rule (a +ℤ pos (suc n)))

abbrev pub greatest_over : FillRule → ℤ → ℕ → ℕ
greatest_over rule a zero = weight_of rule a
greatest_over rule a (suc n) = max (greatest_over rule a n) (weight_of rule (a +ℤ pos (suc n)))

-- how far b lies above a
abbrev pub distance : ℤ → ℤ → ℕ
distance a b = plus (b -ℤ a)

-- over all whole numbers from a to b
unfoldable pub least_weight : FillRule → ℤ → ℤ → ℕ
least_weight rule a b = least_over rule a (distance a b)

unfoldable pub greatest_weight : FillRule → ℤ → ℤ → ℕ
greatest_weight rule a b = greatest_over rule a (distance a b)

-- w is the least weight of the numbers from a to b: one of them has it, and none has less
pub record LeastFrom (rule : FillRule) (a b : ℤ) (w : ℕ) : Type 0 where
  pub number : ℤ
  pub inside : is_within a b number ≡ true
  pub weight_is : weight_of rule number ≡ w
  pub low : (d : ℤ) → is_within a b d ≡ true → w ≤ weight_of rule d

pub record GreatestFrom (rule : FillRule) (a b : ℤ) (w : ℕ) : Type 0 where
  pub number : ℤ
  pub inside : is_within a b number ≡ true
  pub weight_is : weight_of rule number ≡ w
  pub high : (d : ℤ) → is_within a b d ≡ true → weight_of rule d ≤ w
