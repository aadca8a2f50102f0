-- How the code writes the planes: from d of all pixels by columns, at the lowest and at the highest covers.
use Rattle.std.specs.Prelude.{◌≡◌, ◌+◌, ◌*◌, ◌≤◌, ◌<◌}
use Rattle.laws.specs.Prelude.{true, List, ℕ, ℤ, length, le_z, over}
use Rattle.pixel_segment.specs.Field.{cpu}
use Rattle.styling.specs.declared.FillRule.{FillRule}
use Rattle.styling.specs.declared.FillRule.TheVariants.{NonZero, EvenOdd}
use Rattle.cover_statements.specs.Area.{areas_of}
use Rattle.cover_statements.specs.Carry.{load_in}
use Rattle.cover_statements.specs.Cover.{cover_at}
use Rattle.cover_statements.specs.Plane.{in_places}
use Rattle.cover_bounds_statements.specs.Interval.{least_weight, greatest_weight}
use Rattle.cover_bounds_statements.specs.Chosen.{chosen, HeldCovers}
use Rattle.cover_bounds_statements.specs.Within.{BoundPlanes, bound_at}

-- covers on one side of the bounds that can be summed up: there is one for each segment, a word holds it, and no row has too much of them
pub record AddableSide (part : List ℕ) (side : ℕ) (bounds : List ℤ) : Type 0 where
  pub side_is : side ≤ 1
  pub pairs : 2 * length part ≤ length bounds
  pub held : HeldCovers cpu (length part) (bound_at side bounds)
  pub few : (y : ℕ) → y < 16 → load_in cpu y (chosen cpu part (bound_at side bounds)) ≤ 127

-- d of a pixel, of those by columns
abbrev pub area_in : List ℤ → ℕ → ℕ → ℤ
area_in areas c y = cover_at areas (c * 16 + y)

abbrev pub least_in : FillRule → List ℤ → List ℤ → ℕ → ℕ → ℕ
least_in rule lows highs c y = least_weight rule (area_in lows c y) (area_in highs c y)

abbrev pub greatest_in : FillRule → List ℤ → List ℤ → ℕ → ℕ → ℕ
greatest_in rule lows highs c y = greatest_weight rule (area_in lows c y) (area_in highs c y)

-- no lowest d is above the highest
pub record Upward (lows highs : List ℤ) : Type 0 where
  pub at : (k : ℕ) → k < 256 → le_z (cover_at lows k) (cover_at highs k) ≡ true

-- a pair of planes of weights, by one rule
pub record WeightsWritten (rule : FillRule) (lows highs : List ℤ) (oldLeast oldGreatest least greatest : List ℕ) : Type 0 where
  pub least_is : least ≡ over (in_places 16 (least_in rule lows highs)) oldLeast
  pub greatest_is : greatest ≡ over (in_places 16 (greatest_in rule lows highs)) oldGreatest

-- room for all six
pub record Roomy (old : BoundPlanes) : Type 0 where
  pub lowest : 256 ≤ length old.lowest
  pub highest : 256 ≤ length old.highest
  pub least_non_zero : 256 ≤ length old.least_non_zero
  pub greatest_non_zero : 256 ≤ length old.greatest_non_zero
  pub least_even_odd : 256 ≤ length old.least_even_odd
  pub greatest_even_odd : 256 ≤ length old.greatest_even_odd

pub record PlanesWritten (lows highs : List ℤ) (old new : BoundPlanes) : Type 0 where
  pub lowest_is : new.lowest ≡ over (in_places 16 (area_in lows)) old.lowest
  pub highest_is : new.highest ≡ over (in_places 16 (area_in highs)) old.highest
  pub non_zero : WeightsWritten NonZero lows highs old.least_non_zero old.greatest_non_zero new.least_non_zero new.greatest_non_zero
  pub even_odd : WeightsWritten EvenOdd lows highs old.least_even_odd old.greatest_even_odd new.least_even_odd new.greatest_even_odd

-- d at the lowest and at the highest covers, by columns
pub record AreasBetween (part : List ℕ) (bounds low high lows highs : List ℤ) : Type 0 where
  pub lows_are : lows ≡ areas_of cpu 16 (cover_at low) (chosen cpu part (bound_at 0 bounds))
  pub highs_are : highs ≡ areas_of cpu 16 (cover_at high) (chosen cpu part (bound_at 1 bounds))
