-- The promise of bounding a part, from what the code leaves: a refused call leaves the planes, an accepted one writes them from d by columns.
-- Assumes nothing.
use Rattle.refusals.specs.declared.Refusal.{Refusal}
use Rattle.std.specs.Prelude.{◌≡◌, ◌<◌, Result}
use Rattle.laws.proofs.Prelude.{sym, ap, ap₂, ◌∙◌, List, ℕ, arith, ℤ, over}
use Rattle.refusals.specs.Refusal.{Judgement, pass, refuse, judgement_in}
use Rattle.pixel_segment.specs.Field.{cpu}
use Rattle.styling.specs.declared.FillRule.{FillRule}
use Rattle.styling.specs.declared.FillRule.TheVariants.{NonZero, EvenOdd}
use Rattle.cover_statements.specs.Cover.{cover_at}
use Rattle.cover_statements.specs.Plane.{in_places}
use Rattle.cover_statements.proofs.Planes.{places_ext}
use Rattle.cover_bounds_statements.specs.Interval.{least_weight, greatest_weight}
use Rattle.cover_bounds_statements.specs.Chosen.{chosen}
use Rattle.cover_bounds_statements.specs.Within.{BoundsCall, BoundPlanes, bound_at, bounds_verdict, lowest_at, highest_at, least_at, greatest_at}
use Rattle.cover_bounds_statements.specs.Part.{plane_by, BoundsPart}
use Rattle.cover_bounds_statements.specs.InnerPlanes.{area_in, least_in, greatest_in, PlanesWritten, AreasBetween}
use Rattle.cover_bounds_statements.proofs.Calls.{bounds_passed, is_sound, area_in_lem}

never : (n : ℕ) → refuse n ≡ pass → ⊥
never n e = let z : ◌≡◌ {A = ℕ} 0 1 = cc in omega arith

pub refused_part : {call : BoundsCall} {old : BoundPlanes} {r : Result Unit Refusal} (n : ℕ) → bounds_verdict call old ≡ refuse n → judgement_in r ≡ refuse n → BoundsPart call old r old
refused_part {call} {old} n e f =
    record {
      answer = f ∙ sym e;
      lowest_is = sym (ap (λ (j : Judgement). plane_by j (lowest_at call) old.lowest) e);
      highest_is = sym (ap (λ (j : Judgement). plane_by j (highest_at call) old.highest) e);
      least_non_zero = sym (ap (λ (j : Judgement). plane_by j (least_at NonZero call) old.least_non_zero) e);
      greatest_non_zero = sym (ap (λ (j : Judgement). plane_by j (greatest_at NonZero call) old.greatest_non_zero) e);
      least_even_odd = sym (ap (λ (j : Judgement). plane_by j (least_at EvenOdd call) old.least_even_odd) e);
      greatest_even_odd = sym (ap (λ (j : Judgement). plane_by j (greatest_at EvenOdd call) old.greatest_even_odd) e);
      sound = λ p. absurd (never n (sym e ∙ p));
    }

module _ (call : BoundsCall) {lows highs : List ℤ} (a : AreasBetween call.part call.bounds call.low call.high lows highs) where
  low_at : (c y : ℕ) → c < 16 → y < 16 → area_in lows c y ≡ lowest_at call c y
  low_at = area_in_lem (cover_at call.low) (chosen cpu call.part (bound_at 0 call.bounds)) a.lows_are

  high_at : (c y : ℕ) → c < 16 → y < 16 → area_in highs c y ≡ highest_at call c y
  high_at = area_in_lem (cover_at call.high) (chosen cpu call.part (bound_at 1 call.bounds)) a.highs_are

  least_same : (rule : FillRule) → in_places 16 (least_in rule lows highs) ≡ in_places 16 (least_at rule call)
  least_same rule =
      places_ext 16 (least_in rule lows highs) (least_at rule call) (λ c y h k. ap₂ (least_weight rule) (low_at c y h k) (high_at c y h k))

  greatest_same : (rule : FillRule) → in_places 16 (greatest_in rule lows highs) ≡ in_places 16 (greatest_at rule call)
  greatest_same rule =
      places_ext 16 (greatest_in rule lows highs) (greatest_at rule call) (λ c y h k. ap₂ (greatest_weight rule) (low_at c y h k) (high_at c y h k))

  pub written_part : {old new : BoundPlanes} {r : Result Unit Refusal} → bounds_verdict call old ≡ pass → judgement_in r ≡ pass → PlanesWritten lows highs old new → BoundsPart call old r new
  written_part {old} {new} e f w =
      record {
        answer = f ∙ sym e;
        lowest_is = w.lowest_is ∙ ap (λ (l : List ℤ). over l old.lowest) (places_ext 16 (area_in lows) (lowest_at call) low_at) ∙ by (lowest_at call) old.lowest;
        highest_is = w.highest_is ∙ ap (λ (l : List ℤ). over l old.highest) (places_ext 16 (area_in highs) (highest_at call) high_at) ∙ by (highest_at call) old.highest;
        least_non_zero = w.non_zero.least_is ∙ ap (λ (l : List ℕ). over l old.least_non_zero) (least_same NonZero) ∙ by (least_at NonZero call) old.least_non_zero;
        greatest_non_zero = w.non_zero.greatest_is ∙ ap (λ (l : List ℕ). over l old.greatest_non_zero) (greatest_same NonZero) ∙ by (greatest_at NonZero call) old.greatest_non_zero;
        least_even_odd = w.even_odd.least_is ∙ ap (λ (l : List ℕ). over l old.least_even_odd) (least_same EvenOdd) ∙ by (least_at EvenOdd call) old.least_even_odd;
        greatest_even_odd = w.even_odd.greatest_is ∙ ap (λ (l : List ℕ). over l old.greatest_even_odd) (greatest_same EvenOdd) ∙ by (greatest_at EvenOdd call) old.greatest_even_odd;
        sound = λ p. is_sound (bounds_passed p);
      }
    where
      by : {A : Type 0} (f : ℕ → ℕ → A) (l : List A) → over (in_places 16 f) l ≡ plane_by (bounds_verdict call old) f l
      by f l = sym (ap (λ (j : Judgement). plane_by j f l) e)
