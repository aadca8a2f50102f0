-- What the planes of an accepted call say. Stands for W-211, 'any row chosen within the bounds has its weights inside; with equal bounds the two are
-- the ordinary weight'.
use Rattle.std.specs.Prelude.{◌≡◌, ◌≤◌, ◌<◌}
use Rattle.laws.specs.Prelude.{true, List, ℕ, ℤ, length, is_within}
use Rattle.pixel_segment.specs.Field.{cpu}
use Rattle.styling.specs.declared.FillRule.{FillRule}
use Rattle.cover_statements.specs.Carry.{is_light}
use Rattle.cover_statements.specs.Cover.{cover_at}
use Rattle.cover_statements.specs.Weight.{weight_of}
use Rattle.cover_bounds_statements.specs.Chosen.{chosen, chosen_area, InBounds}
use Rattle.cover_bounds_statements.specs.Within.{BoundsCall, bound_at, lowest_at, highest_at, least_at, greatest_at}

-- a cover for each segment and a carry for each pixel row, within the call's bounds
pub record ChosenIn (call : BoundsCall) (cover : ℕ → ℤ) (carry : List ℤ) : Type 0 where
  pub covers : InBounds (length call.part) (bound_at 0 call.bounds) (bound_at 1 call.bounds) cover
  pub carries : InBounds 16 (cover_at call.low) (cover_at call.high) (cover_at carry)

-- every segment's bounds are one number, and every row's
pub record EqualBounds (call : BoundsCall) : Type 0 where
  pub covers : (i : ℕ) → i < length call.part → bound_at 0 call.bounds i ≡ bound_at 1 call.bounds i
  pub carries : (y : ℕ) → y < 16 → cover_at call.low y ≡ cover_at call.high y

-- number 9 lets every choice be painted; its d lies between the lowest and the highest d, and its weight between the least and the greatest
pub record ChoiceInside (call : BoundsCall) (cover : ℕ → ℤ) (carry : List ℤ) : Type 0 where
  pub light : is_light cpu 16 carry (chosen cpu call.part cover) ≡ true
  pub area : (c y : ℕ) → y < 16 → is_within (lowest_at call c y) (highest_at call c y) (chosen_area cpu (cover_at carry) call.part cover c y) ≡ true
  pub least : (rule : FillRule) (c y : ℕ) → y < 16 → least_at rule call c y ≤ weight_of rule (chosen_area cpu (cover_at carry) call.part cover c y)
  pub greatest : (rule : FillRule) (c y : ℕ) → y < 16 → weight_of rule (chosen_area cpu (cover_at carry) call.part cover c y) ≤ greatest_at rule call c y

-- the two d are one, and the two weights are its ordinary weight
pub record Exactly (call : BoundsCall) : Type 0 where
  pub area : (c y : ℕ) → y < 16 → highest_at call c y ≡ lowest_at call c y
  pub least : (rule : FillRule) (c y : ℕ) → y < 16 → least_at rule call c y ≡ weight_of rule (lowest_at call c y)
  pub greatest : (rule : FillRule) (c y : ℕ) → y < 16 → greatest_at rule call c y ≡ weight_of rule (lowest_at call c y)

pub record Sound (call : BoundsCall) : Type 0 where
  pub choices : (cover : ℕ → ℤ) (carry : List ℤ) → ChosenIn call cover carry → ChoiceInside call cover carry
  pub exact : EqualBounds call → Exactly call
