-- The promise of bounding a part: the answer, each of the six lent planes, and what those of an accepted call say.
use Rattle.refusals.specs.declared.Refusal.{Refusal}
use Rattle.std.specs.Prelude.{◌≡◌, Result}
use Rattle.laws.specs.Prelude.{List, ℕ, over}
use Rattle.refusals.specs.Refusal.{Judgement, pass, refuse, judgement_in}
use Rattle.styling.specs.declared.FillRule.TheVariants.{NonZero, EvenOdd}
use Rattle.cover_statements.specs.Plane.{in_places}
use Rattle.cover_bounds_statements.specs.Within.{BoundsCall, BoundPlanes, bounds_verdict, lowest_at, highest_at, least_at, greatest_at}
use Rattle.cover_bounds_statements.specs.Sound.{Sound}

-- a plane over what was lent where the verdict passes; what lies past its 256 numbers stays
abbrev pub plane_by : {A : Type 0} → Judgement → (ℕ → ℕ → A) → List A → List A
plane_by pass f old = over (in_places 16 f) old
plane_by (refuse number) f old = old

pub record BoundsPart (call : BoundsCall) (old : BoundPlanes) (r : Result Unit Refusal) (new : BoundPlanes) : Type 0 where
  pub answer : judgement_in r ≡ bounds_verdict call old
  pub lowest_is : new.lowest ≡ plane_by (bounds_verdict call old) (lowest_at call) old.lowest
  pub highest_is : new.highest ≡ plane_by (bounds_verdict call old) (highest_at call) old.highest
  pub least_non_zero : new.least_non_zero ≡ plane_by (bounds_verdict call old) (least_at NonZero call) old.least_non_zero
  pub greatest_non_zero : new.greatest_non_zero ≡ plane_by (bounds_verdict call old) (greatest_at NonZero call) old.greatest_non_zero
  pub least_even_odd : new.least_even_odd ≡ plane_by (bounds_verdict call old) (least_at EvenOdd call) old.least_even_odd
  pub greatest_even_odd : new.greatest_even_odd ≡ plane_by (bounds_verdict call old) (greatest_at EvenOdd call) old.greatest_even_odd
  pub sound : bounds_verdict call old ≡ pass → Sound call
