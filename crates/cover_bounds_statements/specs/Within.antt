-- One layer in one tile whose covers are known within bounds. Stands for W-211: six lent planes get, of each pixel, the lowest and the highest d and the
-- least and the greatest weight of the numbers between them by both rules. Refused by 1 where a plane is below 256 numbers or the bounds are
-- below two bytes a segment, by 3 for a segment of another layer or tile, by 14 where a lowest is above its highest or a segment's bound is outside
-- -32 to 31, and by 9. No table is lent, so 8 cannot apply. A refusal leaves the planes as they were.
use Rattle.std.specs.Prelude.{◌&&◌, ◌||◌, ◌+◌, ◌*◌, ◌/◌}
use Rattle.laws.specs.Prelude.{Bool, not, List, ℕ, ltb, ℤ, pos, negsuc, length, le_z, is_within, every, all}
use Rattle.refusals.specs.Refusal.{Judgement, pass, unless}
use Rattle.pixel_segment.specs.Field.{cpu}
use Rattle.styling.specs.declared.FillRule.{FillRule}
use Rattle.cover_statements.specs.Cover.{cover_at}
use Rattle.cover_statements.specs.Plane.{size_of}
use Rattle.segment_set_statements.specs.Set.{is_of}
use Rattle.cover_bounds_statements.specs.Interval.{least_weight, greatest_weight}
use Rattle.cover_bounds_statements.specs.Chosen.{chosen_area, is_light_within}

-- what the operation is called with: the bounds are two bytes a segment, its lowest and its highest cover, in the part's order; low and high are
-- the carry's, a byte for each pixel row
pub record BoundsCall : Type 0 where
  pub layer : ℕ
  pub tile_x : ℤ
  pub tile_y : ℤ
  pub part : List ℕ
  pub bounds : List ℤ
  pub low : List ℤ
  pub high : List ℤ

abbrev pub bounds_call : ℕ → ℤ → ℤ → List ℕ → List ℤ → List ℤ → List ℤ → BoundsCall
bounds_call layer tile_x tile_y part bounds low high =
    record { layer = layer; tile_x = tile_x; tile_y = tile_y; part = part; bounds = bounds; low = low; high = high }

-- the six lent planes
pub record BoundPlanes : Type 0 where
  pub lowest : List ℤ
  pub highest : List ℤ
  pub least_non_zero : List ℕ
  pub greatest_non_zero : List ℕ
  pub least_even_odd : List ℕ
  pub greatest_even_odd : List ℕ

abbrev pub bound_planes : List ℤ → List ℤ → List ℕ → List ℕ → List ℕ → List ℕ → BoundPlanes
bound_planes a b c d e f =
    record { lowest = a; highest = b; least_non_zero = c; greatest_non_zero = d; least_even_odd = e; greatest_even_odd = f }

-- segment i's bound on a side: its lowest cover on side 0, its highest on side 1
abbrev pub bound_at : ℕ → List ℤ → ℕ → ℤ
bound_at side bounds i = cover_at bounds (2 * i + side)

-- ---- what is refused

-- a plane below 256 numbers
abbrev pub is_below : {A : Type 0} → List A → Bool
is_below plane = ltb (length plane) (size_of 16)

-- number 1
abbrev pub lacks_room : BoundsCall → BoundPlanes → Bool
lacks_room call old =
    ltb (length call.bounds / 2) (length call.part)
    || is_below old.lowest
    || is_below old.highest
    || is_below old.least_non_zero
    || is_below old.greatest_non_zero
    || is_below old.least_even_odd
    || is_below old.greatest_even_odd

-- number 14 does not apply to the bounds of a segment, nor to any; nor to the carry's
abbrev pub is_cover : ℤ → Bool
is_cover v = is_within (negsuc 31) (pos 31) v

abbrev pub is_bounded : ℤ → ℤ → Bool
is_bounded low high = is_cover low && is_cover high && le_z low high

abbrev pub are_bounded : ℕ → List ℤ → Bool
are_bounded count bounds = every count (λ i. is_bounded (bound_at 0 bounds i) (bound_at 1 bounds i))

abbrev pub is_carry_bounded : List ℤ → List ℤ → Bool
is_carry_bounded low high = every 16 (λ y. le_z (cover_at low y) (cover_at high y))

-- number 9 does not apply
abbrev pub is_call_light : BoundsCall → Bool
is_call_light call = is_light_within cpu 16 call.low call.high call.part (bound_at 0 call.bounds) (bound_at 1 call.bounds)

unfoldable pub bounds_verdict : BoundsCall → BoundPlanes → Judgement
bounds_verdict call old =
    unless (lacks_room call old) 1
    (unless (not (all (is_of call.layer call.tile_x call.tile_y) call.part)) 3
    (unless (not (are_bounded (length call.part) call.bounds && is_carry_bounded call.low call.high)) 14
    (unless (not (is_call_light call)) 9
    pass)))

-- ---- what is written

-- d of a pixel with every cover at its lowest, and at its highest
abbrev pub lowest_at : BoundsCall → ℕ → ℕ → ℤ
lowest_at call c y = chosen_area cpu (cover_at call.low) call.part (bound_at 0 call.bounds) c y

abbrev pub highest_at : BoundsCall → ℕ → ℕ → ℤ
highest_at call c y = chosen_area cpu (cover_at call.high) call.part (bound_at 1 call.bounds) c y

-- the least and the greatest weight of the numbers between them
abbrev pub least_at : FillRule → BoundsCall → ℕ → ℕ → ℕ
least_at rule call c y = least_weight rule (lowest_at call c y) (highest_at call c y)

abbrev pub greatest_at : FillRule → BoundsCall → ℕ → ℕ → ℕ
greatest_at rule call c y = greatest_weight rule (lowest_at call c y) (highest_at call c y)
