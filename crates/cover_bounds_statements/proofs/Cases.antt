-- Intervals of d worked out: the least and the greatest weight by NonZero, and by EvenOdd. Assumes nothing.
use Rattle.std.specs.Prelude.{◌≡◌}
use Rattle.laws.proofs.Prelude.{refl, sym, true, ℕ, ℤ, pos, negsuc, le_z, le_true}
use Rattle.styling.specs.declared.FillRule.TheVariants.{NonZero, EvenOdd}
use Rattle.cover_bounds_statements.specs.Interval.{least_weight, greatest_weight}
use Rattle.cover_bounds_statements.specs.InnerEnds.{has_multiple, least_by_ends, greatest_by_ends}
use Rattle.cover_bounds_statements.proofs.Ends.{least_by_ends_lem, greatest_by_ends_lem}

pub record Weights (a b : ℤ) (n n' e e' : ℕ) : Type 0 where
  pub least_non_zero : least_weight NonZero a b ≡ n
  pub greatest_non_zero : greatest_weight NonZero a b ≡ n'
  pub least_even_odd : least_weight EvenOdd a b ≡ e
  pub greatest_even_odd : greatest_weight EvenOdd a b ≡ e'

by_ends : (a b : ℤ) → le_z a b ≡ true → Weights a b (least_by_ends NonZero a b) (greatest_by_ends NonZero a b) (least_by_ends EvenOdd a b) (greatest_by_ends EvenOdd a b)
by_ends a b o =
    let h = le_true a b o in
    record {
      least_non_zero = sym (least_by_ends_lem a b h NonZero);
      greatest_non_zero = sym (greatest_by_ends_lem a b h NonZero);
      least_even_odd = sym (least_by_ends_lem a b h EvenOdd);
      greatest_even_odd = sym (greatest_by_ends_lem a b h EvenOdd);
    }

-- 512 lies between
pub around_512 : Weights (pos 500) (pos 600) 500 512 424 512
unfolding has_multiple
around_512 = by_ends (pos 500) (pos 600) refl

pub around_minus_512 : Weights (negsuc 599) (negsuc 499) 500 512 424 512
unfolding has_multiple
around_minus_512 = by_ends (negsuc 599) (negsuc 499) refl

pub around_1536 : Weights (pos 1535) (pos 1537) 512 512 511 512
unfolding has_multiple
around_1536 = by_ends (pos 1535) (pos 1537) refl

-- 0 lies between, or 1,024
pub around_0 : Weights (negsuc 99) (pos 40) 0 100 0 100
unfolding has_multiple
around_0 = by_ends (negsuc 99) (pos 40) refl

pub around_1024 : Weights (pos 1000) (pos 1100) 512 512 0 76
unfolding has_multiple
around_1024 = by_ends (pos 1000) (pos 1100) refl

-- one short of such a number at each end
pub short_of_both : Weights (pos 513) (pos 1023) 512 512 1 511
unfolding has_multiple
short_of_both = by_ends (pos 513) (pos 1023) refl

pub short_of_512 : Weights (pos 1) (pos 511) 1 511 1 511
unfolding has_multiple
short_of_512 = by_ends (pos 1) (pos 511) refl

-- none between
pub downward : Weights (negsuc 1499) (negsuc 1099) 512 512 76 476
unfolding has_multiple
downward = by_ends (negsuc 1499) (negsuc 1099) refl

-- one number
pub one_number : Weights (pos 700) (pos 700) 512 512 324 324
unfolding has_multiple
one_number = by_ends (pos 700) (pos 700) refl
