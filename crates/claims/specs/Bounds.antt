-- Covers known within bounds: every d that a choice gives lies between the lowest and the highest d, which choices give; narrower bounds give an interval
-- inside; and each bound of a weight is the weight of some number of the interval. Stands for W-211.
use Rattle.std.specs.Prelude.{◌≡◌, ◌≤◌, ◌<◌}
use Rattle.laws.specs.Prelude.{true, List, ℕ, ℤ, pos, negsuc, nat_abs, length, AtMost}
use Rattle.pixel_segment.specs.Field.{width_of}
use Rattle.pixel_segment.specs.Layout.{Layout}
use Rattle.styling.specs.declared.FillRule.{FillRule}
use Rattle.styling.specs.declared.FillRule.TheVariants.{NonZero, EvenOdd}
use Rattle.cover_statements.specs.Carry.{is_light}
use Rattle.cover_statements.specs.Cover.{cover_at}
use Rattle.cover_statements.specs.Weight.{weight_of}
use Rattle.cover_bounds_statements.specs.Chosen.{chosen, chosen_area, InBounds, HeldCovers, is_light_within, Ordered, Reached}
use Rattle.cover_bounds_statements.specs.Interval.{least_weight, greatest_weight, LeastFrom, GreatestFrom}

-- of one part, with bounds for each segment's cover and each row's carry
pub record Within (ws : List ℕ) (n : ℕ) (part : List ℕ) (lows highs carryLow carryHigh : ℕ → ℤ) : Type 0 where
  -- any choice
  pub lower : (cover carry : ℕ → ℤ) → InBounds (length part) lows highs cover → InBounds n carryLow carryHigh carry → (c y : ℕ) → y < n →
      AtMost (chosen_area ws carryLow part lows c y) (chosen_area ws carry part cover c y)
  pub higher : (cover carry : ℕ → ℤ) → InBounds (length part) lows highs cover → InBounds n carryLow carryHigh carry → (c y : ℕ) → y < n →
      AtMost (chosen_area ws carry part cover c y) (chosen_area ws carryHigh part highs c y)
  pub sound : (cover carry : ℕ → ℤ) → InBounds (length part) lows highs cover → InBounds n carryLow carryHigh carry → (c y : ℕ) → y < n →
      (rule : FillRule) →
      let low = chosen_area ws carryLow part lows c y in
      let high = chosen_area ws carryHigh part highs c y in
      let weight = weight_of rule (chosen_area ws carry part cover c y) in
      (least_weight rule low high ≤ weight) × (weight ≤ greatest_weight rule low high)
  -- equal bounds
  pub exact_area : ((i : ℕ) → i < length part → lows i ≡ highs i) → ((y : ℕ) → y < n → carryLow y ≡ carryHigh y) → (c y : ℕ) → y < n →
      chosen_area ws carryHigh part highs c y ≡ chosen_area ws carryLow part lows c y
  -- the lowest and the highest d are met by choices
  pub reached_lowest : Ordered (length part) lows highs → Ordered n carryLow carryHigh → (c y : ℕ) →
      Reached ws n part lows highs carryLow carryHigh c y (chosen_area ws carryLow part lows c y)
  pub reached_highest : Ordered (length part) lows highs → Ordered n carryLow carryHigh → (c y : ℕ) →
      Reached ws n part lows highs carryLow carryHigh c y (chosen_area ws carryHigh part highs c y)
  -- narrower bounds
  pub narrower : (lows' highs' carryLow' carryHigh' : ℕ → ℤ) → InBounds (length part) lows highs lows' → InBounds (length part) lows highs highs' →
      Ordered (length part) lows' highs' → InBounds n carryLow carryHigh carryLow' → InBounds n carryLow carryHigh carryHigh' → Ordered n carryLow' carryHigh' →
      (c y : ℕ) → y < n → (rule : FillRule) →
      let low = chosen_area ws carryLow part lows c y in
      let high = chosen_area ws carryHigh part highs c y in
      let low' = chosen_area ws carryLow' part lows' c y in
      let high' = chosen_area ws carryHigh' part highs' c y in
      (least_weight rule low high ≤ least_weight rule low' high') × (greatest_weight rule low' high' ≤ greatest_weight rule low high)

-- what number 9 lets pass keeps every chosen row within 127, and its d within 8,001
pub record LightWithin (ws : List ℕ) (n : ℕ) (part : List ℕ) (lows highs : ℕ → ℤ) (low high : List ℤ) : Type 0 where
  pub light : (cover : ℕ → ℤ) (carry : List ℤ) → InBounds (length part) lows highs cover → InBounds n (cover_at low) (cover_at high) (cover_at carry) →
      is_light ws n carry (chosen ws part cover) ≡ true
  pub small : width_of ws 5 ≡ 6 → (cover : ℕ → ℤ) (carry : List ℤ) → InBounds (length part) lows highs cover →
      InBounds n (cover_at low) (cover_at high) (cover_at carry) → (c y : ℕ) → y < n → nat_abs (chosen_area ws (cover_at carry) part cover c y) ≤ 8001

-- the least and the greatest weight of an interval of d, by NonZero and by EvenOdd
pub record IntervalWeights (a b : ℤ) (n n' e e' : ℕ) : Type 0 where
  pub least_non_zero : least_weight NonZero a b ≡ n
  pub greatest_non_zero : greatest_weight NonZero a b ≡ n'
  pub least_even_odd : least_weight EvenOdd a b ≡ e
  pub greatest_even_odd : greatest_weight EvenOdd a b ≡ e'

pub record Intervals : Type 0 where
  -- 512 lies between
  pub around_512 : IntervalWeights (pos 500) (pos 600) 500 512 424 512
  pub around_minus_512 : IntervalWeights (negsuc 599) (negsuc 499) 500 512 424 512
  pub around_1536 : IntervalWeights (pos 1535) (pos 1537) 512 512 511 512
  -- 0 lies between, or 1,024
  pub around_0 : IntervalWeights (negsuc 99) (pos 40) 0 100 0 100
  pub around_1024 : IntervalWeights (pos 1000) (pos 1100) 512 512 0 76
  -- one short of such a number at each end
  pub short_of_both : IntervalWeights (pos 513) (pos 1023) 512 512 1 511
  pub short_of_512 : IntervalWeights (pos 1) (pos 511) 1 511 1 511
  -- none between, and one number
  pub downward : IntervalWeights (negsuc 1499) (negsuc 1099) 512 512 76 476
  pub one_number : IntervalWeights (pos 700) (pos 700) 512 512 324 324

pub record CoverBounds : Type 0 where
  pub intervals : Intervals
  pub within : (ws : List ℕ) → Layout ws → (n : ℕ) (part : List ℕ) (lows highs carryLow carryHigh : ℕ → ℤ) → HeldCovers ws (length part) lows →
      HeldCovers ws (length part) highs → Within ws n part lows highs carryLow carryHigh
  pub light_within : (ws : List ℕ) → Layout ws → (n : ℕ) (part : List ℕ) (lows highs : ℕ → ℤ) (low high : List ℤ) → HeldCovers ws (length part) lows →
      HeldCovers ws (length part) highs → is_light_within ws n low high part lows highs ≡ true → LightWithin ws n part lows highs low high
  -- each bound is the weight of some number of the interval, and no number's weight is outside
  pub least_is : (rule : FillRule) (a b : ℤ) → AtMost a b → LeastFrom rule a b (least_weight rule a b)
  pub greatest_is : (rule : FillRule) (a b : ℤ) → AtMost a b → GreatestFrom rule a b (greatest_weight rule a b)
