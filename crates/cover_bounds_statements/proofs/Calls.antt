-- What a verdict that passes tells of a call; that its planes say what they should; and d by columns. Assumes nothing.
use Rattle.std.specs.Prelude.{◌≡◌, ◌&&◌, ◌||◌, ◌+◌, ◌*◌, ◌/◌, ◌%◌, ◌≤◌, ◌<◌}
use Rattle.laws.proofs.Prelude.{ap, ap₂, ◌∙◌, Bool, true, false, not, List, ℕ, arith, ltb-false}
use Rattle.laws.proofs.Prelude.{not-false, ltb, ℤ, pos, negsuc, length, le_z, plus, minus, all, left, right, every_at, le_true, true_le, whole}
use Rattle.laws.proofs.Ranges.{within}
use Rattle.refusals.specs.Refusal.{pass, unless}
use Rattle.refusals.proofs.Judging.{passed, or_left, or_right}
use Rattle.pixel_segment.specs.Field.{cpu}
use Rattle.pixel_segment.proofs.Ranges.{cpu_layout}
use Rattle.cover_statements.specs.Area.{doubled_area, areas_of}
use Rattle.cover_statements.specs.Carry.{is_light}
use Rattle.cover_statements.specs.Cover.{cover_at}
use Rattle.cover_statements.proofs.Carries.{light}
use Rattle.cover_statements.proofs.Planes.{areas_at}
use Rattle.segment_set_statements.specs.Set.{is_of}
use Rattle.cover_bounds_statements.specs.Chosen.{chosen, HeldCovers, heavier, Ordered}
use Rattle.cover_bounds_statements.specs.Within.{BoundsCall, BoundPlanes, bound_at, is_below, lacks_room, is_cover, is_bounded, are_bounded, is_carry_bounded, is_call_light, bounds_verdict, lowest_at, highest_at}
use Rattle.cover_bounds_statements.specs.Sound.{Sound, ChosenIn}
use Rattle.cover_bounds_statements.specs.InnerPlanes.{AddableSide, area_in, Upward, Roomy}
use Rattle.cover_bounds_statements.proofs.Choosing.{area_most, heavier_is}
use Rattle.cover_bounds_statements.proofs.Bounds.{low_itself, high_itself, inside, sound, exact_area, exact_least, exact_greatest, light_within}

-- ---- bounds that 14 lets pass

-- a cover of -32 to 31 is one that a word holds
held_cover : (v : ℤ) → is_cover v ≡ true → (minus v ≤ 32) × (plus v < 32)
held_cover v e = let w = within (negsuc 31) (pos 31) v e in omega (arith, whole v)

pub record Pair (low high : ℤ) : Type 0 where
  pub low_held : (minus low ≤ 32) × (plus low < 32)
  pub high_held : (minus high ≤ 32) × (plus high < 32)
  pub order : plus low + minus high ≤ plus high + minus low

pub pair_of : (low high : ℤ) → is_bounded low high ≡ true → Pair low high
pair_of low high e =
    let ab = left (is_cover low && is_cover high) (le_z low high) e in
    record {
      low_held = held_cover low (left (is_cover low) (is_cover high) ab);
      high_held = held_cover high (right (is_cover low) (is_cover high) ab);
      order = le_true low high (right (is_cover low && is_cover high) (le_z low high) e);
    }

module _ (count : ℕ) (bounds : List ℤ) (e : are_bounded count bounds ≡ true) where
  pub pair_at : (i : ℕ) → i < count → Pair (bound_at 0 bounds i) (bound_at 1 bounds i)
  pair_at i h = pair_of (bound_at 0 bounds i) (bound_at 1 bounds i) (every_at count (λ j. is_bounded (bound_at 0 bounds j) (bound_at 1 bounds j)) e i h)

  pub held_low : HeldCovers cpu count (bound_at 0 bounds)
  held_low = record { at = λ i h. (pair_at i h).low_held }

  pub held_high : HeldCovers cpu count (bound_at 1 bounds)
  held_high = record { at = λ i h. (pair_at i h).high_held }

  pub in_order : Ordered count (bound_at 0 bounds) (bound_at 1 bounds)
  in_order = record { at = λ i h. (pair_at i h).order }

pub held_heavier : (count : ℕ) (bounds : List ℤ) → are_bounded count bounds ≡ true → HeldCovers cpu count (λ i. heavier (bound_at 0 bounds i) (bound_at 1 bounds i))
held_heavier count bounds e =
    record {
      at =
          λ i h.
          let p = pair_at count bounds e i h in
          heavier_is (λ v. (minus v ≤ 32) × (plus v < 32)) (bound_at 0 bounds i) (bound_at 1 bounds i) p.low_held p.high_held;
    }

pub carry_in_order : (low high : List ℤ) → is_carry_bounded low high ≡ true → Ordered 16 (cover_at low) (cover_at high)
carry_in_order low high e =
    record { at = λ y h. le_true (cover_at low y) (cover_at high y) (every_at 16 (λ r. le_z (cover_at low r) (cover_at high r)) e y h) }

-- ---- a verdict that passes

pub record Passed (call : BoundsCall) (old : BoundPlanes) : Type 0 where
  pub pairs : length call.part ≤ length call.bounds / 2
  pub roomy : Roomy old
  pub bounded : are_bounded (length call.part) call.bounds ≡ true
  pub carry_bounded : is_carry_bounded call.low call.high ≡ true
  pub light : is_call_light call ≡ true

enough : {A : Type 0} (l : List A) → is_below l ≡ false → 256 ≤ length l
enough l e = ltb-false (length l) 256 e

-- room, by the seven lines of number 1
record Room (pairs lowest highest leastN greatestN leastE greatestE : Bool) : Type 0 where
  a : pairs ≡ false
  b : lowest ≡ false
  c : highest ≡ false
  d : leastN ≡ false
  e : greatestN ≡ false
  f : leastE ≡ false
  g : greatestE ≡ false

seven : (a b c d e f g : Bool) → (a || b || c || d || e || f || g) ≡ false → Room a b c d e f g
seven a b c d e f g h =
    let h6 = or_left (a || b || c || d || e || f) g h in
    let h5 = or_left (a || b || c || d || e) f h6 in
    let h4 = or_left (a || b || c || d) e h5 in
    let h3 = or_left (a || b || c) d h4 in
    let h2 = or_left (a || b) c h3 in
    record {
      a = or_left a b h2;
      b = or_right a b h2;
      c = or_right (a || b) c h3;
      d = or_right (a || b || c) d h4;
      e = or_right (a || b || c || d) e h5;
      f = or_right (a || b || c || d || e) f h6;
      g = or_right (a || b || c || d || e || f) g h;
    }

-- number 1 does not apply: there is a pair for each segment
pub pairs_there : (call : BoundsCall) (old : BoundPlanes) → lacks_room call old ≡ false → length call.part ≤ length call.bounds / 2
pairs_there call old e =
    ltb-false (length call.bounds / 2) (length call.part)
    (seven (ltb (length call.bounds / 2) (length call.part)) (is_below old.lowest) (is_below old.highest) (is_below old.least_non_zero) (is_below old.greatest_non_zero) (is_below old.least_even_odd) (is_below old.greatest_even_odd) e).a

pub bounds_passed : {call : BoundsCall} {old : BoundPlanes} → bounds_verdict call old ≡ pass → Passed call old
unfolding bounds_verdict
bounds_passed {call} {old} e =
    let x = are_bounded (length call.part) call.bounds in
    let y = is_carry_bounded call.low call.high in
    let nine = unless (not (is_call_light call)) 9 pass in
    let bounds = unless (not (x && y)) 14 nine in
    let three = unless (not (all (is_of call.layer call.tile_x call.tile_y) call.part)) 3 bounds in
    let p = passed (lacks_room call old) 1 three e in
    let q = passed (not (all (is_of call.layer call.tile_x call.tile_y) call.part)) 3 bounds p.1 in
    let r = passed (not (x && y)) 14 nine q.1 in
    let s = passed (not (is_call_light call)) 9 pass r.1 in
    let room = seven (ltb (length call.bounds / 2) (length call.part)) (is_below old.lowest) (is_below old.highest) (is_below old.least_non_zero) (is_below old.greatest_non_zero) (is_below old.least_even_odd) (is_below old.greatest_even_odd) p.0 in
    record {
      pairs = ltb-false (length call.bounds / 2) (length call.part) room.a;
      roomy =
          record {
            lowest = enough old.lowest room.b;
            highest = enough old.highest room.c;
            least_non_zero = enough old.least_non_zero room.d;
            greatest_non_zero = enough old.greatest_non_zero room.e;
            least_even_odd = enough old.least_even_odd room.f;
            greatest_even_odd = enough old.greatest_even_odd room.g;
          };
      bounded = left x y (not-false (x && y) r.0);
      carry_bounded = right x y (not-false (x && y) r.0);
      light = not-false (is_call_light call) s.0;
    }

-- ---- what follows of it

module _ {call : BoundsCall} {old : BoundPlanes} (p : Passed call old) where
  lows : HeldCovers cpu (length call.part) (bound_at 0 call.bounds)
  lows = held_low (length call.part) call.bounds p.bounded

  highs : HeldCovers cpu (length call.part) (bound_at 1 call.bounds)
  highs = held_high (length call.part) call.bounds p.bounded

  covers_up : Ordered (length call.part) (bound_at 0 call.bounds) (bound_at 1 call.bounds)
  covers_up = in_order (length call.part) call.bounds p.bounded

  carries_up : Ordered 16 (cover_at call.low) (cover_at call.high)
  carries_up = carry_in_order call.low call.high p.carry_bounded

  chosen_light : (cover : ℕ → ℤ) (carry : List ℤ) → ChosenIn call cover carry → is_light cpu 16 carry (chosen cpu call.part cover) ≡ true
  chosen_light cover carry k =
      light_within cpu cpu_layout 16 call.part (bound_at 0 call.bounds) (bound_at 1 call.bounds) call.low call.high lows highs p.light cover carry k.covers k.carries

  -- every choice is inside, and equal bounds are exact
  pub is_sound : Sound call
  is_sound =
      let part = call.part in
      let a = bound_at 0 call.bounds in
      let b = bound_at 1 call.bounds in
      let c = cover_at call.low in
      let d = cover_at call.high in
      record {
        choices =
            λ cover carry k.
            record {
              light = chosen_light cover carry k;
              area = λ x y h. inside cpu cpu_layout 16 part a b c d lows highs cover (cover_at carry) k.covers k.carries x y h;
              least = λ rule x y h. (sound cpu cpu_layout 16 part a b c d lows highs cover (cover_at carry) k.covers k.carries x y h rule).0;
              greatest = λ rule x y h. (sound cpu cpu_layout 16 part a b c d lows highs cover (cover_at carry) k.covers k.carries x y h rule).1;
            };
        exact =
            λ e.
            record {
              area = λ x y h. exact_area cpu cpu_layout 16 part a b c d lows highs e.covers e.carries x y h;
              least = λ rule x y h. exact_least cpu cpu_layout 16 part a b c d lows highs e.covers e.carries x y h rule;
              greatest = λ rule x y h. exact_greatest cpu cpu_layout 16 part a b c d lows highs e.covers e.carries x y h rule;
            };
      }

  -- both sides can be summed up
  pub low_light : is_light cpu 16 call.low (chosen cpu call.part (bound_at 0 call.bounds)) ≡ true
  low_light = chosen_light (bound_at 0 call.bounds) call.low (record { covers = low_itself covers_up; carries = low_itself carries_up })

  pub high_light : is_light cpu 16 call.high (chosen cpu call.part (bound_at 1 call.bounds)) ≡ true
  high_light = chosen_light (bound_at 1 call.bounds) call.high (record { covers = high_itself covers_up; carries = high_itself carries_up })

  pub low_addable : AddableSide call.part 0 call.bounds
  low_addable =
      record { side_is = omega arith; pairs = omega (arith, p.pairs); held = lows; few = λ y h. omega (arith, (light low_light).at y h) }

  pub high_addable : AddableSide call.part 1 call.bounds
  high_addable =
      record { side_is = omega arith; pairs = omega (arith, p.pairs); held = highs; few = λ y h. omega (arith, (light high_light).at y h) }

  -- and no lowest d is above the highest
  pub areas_upward : {low high : List ℤ} → low ≡ areas_of cpu 16 (cover_at call.low) (chosen cpu call.part (bound_at 0 call.bounds)) → high ≡ areas_of cpu 16 (cover_at call.high) (chosen cpu call.part (bound_at 1 call.bounds)) → Upward low high
  areas_upward e f =
      record {
        at =
            λ k h.
            let x = k / 16 in
            let y = k % 16 in
            rw (e, f, areas_at cpu 16 (cover_at call.low) (chosen cpu call.part (bound_at 0 call.bounds)) k h, areas_at cpu 16 (cover_at call.high) (chosen cpu call.part (bound_at 1 call.bounds)) k h)
            (true_le (lowest_at call x y) (highest_at call x y)
            (area_most cpu cpu_layout call.part (bound_at 0 call.bounds) (bound_at 1 call.bounds) lows highs covers_up x y (cover_at call.low) (cover_at call.high) (carries_up.at y (omega arith))));
      }

-- ---- d by columns

-- d of a pixel, read from d by columns
pub area_in_lem : (incoming : ℕ → ℤ) (part : List ℕ) {areas : List ℤ} → areas ≡ areas_of cpu 16 incoming part → (c y : ℕ) → c < 16 → y < 16 → area_in areas c y ≡ doubled_area cpu incoming part c y
area_in_lem incoming part {areas} e c y h l =
    let k = c * 16 + y in
    let d : k / 16 ≡ c = omega arith in
    let m : k % 16 ≡ y = omega arith in
    ap (λ (r : List ℤ). cover_at r k) e ∙ areas_at cpu 16 incoming part k (omega arith) ∙ ap₂ (doubled_area cpu incoming part) d m
