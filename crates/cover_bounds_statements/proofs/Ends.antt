-- The least and the greatest weight of an interval by its ends are those of the walk, by both rules. EvenOdd sees the interval by the remainder of
-- its first number and by its length: a number that leaves a given remainder is within reach or it is not, and where it is not the weights go
-- straight from end to end, or down and up again. Assumes nothing.
use Rattle.std.specs.Prelude.{◌≡◌, ◌||◌, ◌⊎◌, ◌+◌, ◌-◌, ◌%◌, ◌≤◌, ◌<◌, ◌+ℤ◌}
use Rattle.laws.proofs.Prelude.{refl, sym, ap, subst, ◌∙◌, Bool, true, false, cond, inl, inr, ⊎_elim, ℕ, min}
use Rattle.laws.proofs.Prelude.{max, add-zero, mod-lt, mod-eq_of_lt, arith, eqb-true, eqb-false, leb-true, leb-false, eqb, leb, lit<, ℤ, pos, nat_abs}
use Rattle.laws.proofs.Prelude.{+ℤ_idr, le_z, plus, minus, modℤ, AtMost, both, left, right, clash, either, remainder, le_or_lt, whole, added}
use Rattle.laws.proofs.Prelude.{difference, le_true, true_le}
use mathlib.Core.Logic.{⊎_swap}
use Rattle.refusals.proofs.Judging.{or_left, or_right}
use Rattle.laws.proofs.Mod.{moved}
use Rattle.weight_table.specs.Rest.{rest_weight}
use Rattle.styling.specs.declared.FillRule.{FillRule}
use Rattle.styling.specs.declared.FillRule.TheVariants.{NonZero, EvenOdd}
use Rattle.cover_statements.specs.Weight.{weight_of}
use Rattle.cover_statements.proofs.Weights.{low, high, weight_le}
use Rattle.cover_bounds_statements.specs.Interval.{distance, least_weight, greatest_weight}
use Rattle.cover_bounds_statements.specs.InnerEnds.{has_zero, has_multiple, has_none, least_by_ends, greatest_by_ends}
use Rattle.cover_bounds_statements.proofs.Intervals.{Met, Least, Greatest, walk_least, walk_greatest, same_least, same_greatest, far}

-- ---- the ends as numbers of the interval

first_met : (rule : FillRule) (a : ℤ) (n : ℕ) → Met rule a n (weight_of rule a)
first_met rule a n = record { at = 0; within = omega arith; is = ap (weight_of rule) (+ℤ_idr a) }

last_met : (rule : FillRule) (a : ℤ) (n : ℕ) → Met rule a n (weight_of rule (a +ℤ pos n))
last_met rule a n = record { at = n; within = omega arith; is = refl }

-- the lesser and the greater of the two ends' weights
lesser_met : (rule : FillRule) (a : ℤ) (n : ℕ) → Met rule a n (min (weight_of rule a) (weight_of rule (a +ℤ pos n)))
lesser_met rule a n =
    let v = weight_of rule a in
    let w = weight_of rule (a +ℤ pos n) in
    ⊎_elim
    (λ (h : v ≤ w). subst (Met rule a n) (omega arith) (first_met rule a n))
    (λ (h : w < v). subst (Met rule a n) (omega arith) (last_met rule a n))
    (le_or_lt v w)

greater_met : (rule : FillRule) (a : ℤ) (n : ℕ) → Met rule a n (max (weight_of rule a) (weight_of rule (a +ℤ pos n)))
greater_met rule a n =
    let v = weight_of rule a in
    let w = weight_of rule (a +ℤ pos n) in
    ⊎_elim
    (λ (h : v ≤ w). subst (Met rule a n) (omega arith) (last_met rule a n))
    (λ (h : w < v). subst (Met rule a n) (omega arith) (first_met rule a n))
    (le_or_lt v w)

-- ---- NonZero: the weights fall toward 0 and rise from it

zero_met : (a : ℤ) (n : ℕ) → has_zero a (a +ℤ pos n) ≡ true → Met NonZero a n 0
zero_met a n e =
    let b = a +ℤ pos n in
    let low = le_true a (pos 0) (left (le_z a (pos 0)) (le_z (pos 0) b) e) in
    let high = le_true (pos 0) b (right (le_z a (pos 0)) (le_z (pos 0) b) e) in
    record {
      at = minus a;
      within = omega (arith, whole a, added a (pos n));
      is = omega (arith, whole a, added a (pos (minus a)));
    }

-- where 0 is none of the numbers, all are on one side of it
one_side : (a b : ℤ) → has_zero a b ≡ false → (0 < plus a) ⊎ (0 < minus b)
one_side a b e =
    ⊎_elim
    (λ (p : plus a ≤ 0).
    ⊎_elim
    (λ (q : minus b ≤ 0). absurd (clash_of (true_le a (pos 0) (omega arith)) (true_le (pos 0) b (omega arith))))
    (λ (q : 0 < minus b). inr q)
    (le_or_lt (minus b) 0))
    (λ (p : 0 < plus a). inl p)
    (le_or_lt (plus a) 0)
  where
    clash_of : le_z a (pos 0) ≡ true → le_z (pos 0) b ≡ true → ⊥
    clash_of p q = clash (both (le_z a (pos 0)) (le_z (pos 0) b) p q) e

non_zero_low : (a : ℤ) (n i : ℕ) → i ≤ n → (0 < plus a) ⊎ (0 < minus (a +ℤ pos n)) → min (nat_abs a) (nat_abs (a +ℤ pos n)) ≤ nat_abs (a +ℤ pos i)
non_zero_low a n i h s =
    ⊎_elim
    (λ (p : 0 < plus a). omega (arith, whole a, added a (pos n), added a (pos i)))
    (λ (p : 0 < minus (a +ℤ pos n)). omega (arith, whole a, added a (pos n), added a (pos i)))
    s

non_zero_high : (a : ℤ) (n i : ℕ) → i ≤ n → nat_abs (a +ℤ pos i) ≤ max (nat_abs a) (nat_abs (a +ℤ pos n))
non_zero_high a n i h = omega (arith, whole a, added a (pos n), added a (pos i))

non_zero_least : (a : ℤ) (n : ℕ) (t : Bool) → has_zero a (a +ℤ pos n) ≡ t → Least NonZero a n (cond t 0 (min (weight_of NonZero a) (weight_of NonZero (a +ℤ pos n))))
non_zero_least a n true e = record { met = zero_met a n e; low = λ i h. omega arith }
non_zero_least a n false e =
    record {
      met = lesser_met NonZero a n;
      low = λ i h. omega (arith, non_zero_low a n i h (one_side a (a +ℤ pos n) e));
    }

non_zero_greatest : (a : ℤ) (n : ℕ) → Greatest NonZero a n (max (weight_of NonZero a) (weight_of NonZero (a +ℤ pos n)))
non_zero_greatest a n = record { met = greater_met NonZero a n; high = λ i h. omega (arith, non_zero_high a n i h) }

-- ---- EvenOdd: by remainders

-- the weight of a remainder: the distance to the nearer end of 0..1,024
nearer_end : (rest : ℕ) → rest ≤ 1024 → rest_weight rest ≡ min rest (1024 - rest)
nearer_end rest h = omega (arith, difference rest 512)

weight_at : (a : ℤ) (i : ℕ) → weight_of EvenOdd (a +ℤ pos i) ≡ min ((modℤ 1024 a + i) % 1024) (1024 - (modℤ 1024 a + i) % 1024)
weight_at a i =
    ap rest_weight (moved 1024 a i (lit< tt))
    ∙ nearer_end ((modℤ 1024 a + i) % 1024) (omega (arith, mod-lt (modℤ 1024 a + i) {m = 1024} (lit< tt)))

weight_first : (a : ℤ) → weight_of EvenOdd a ≡ min (modℤ 1024 a) (1024 - modℤ 1024 a)
weight_first a = nearer_end (modℤ 1024 a) (omega (arith, (remainder 1024 a (lit< tt)).low))

-- a multiple of 1,024 from s on, within n
reach : (s n : ℕ) → s < 1024 → (eqb s 0 || leb 1024 (s + n)) ≡ true → (1024 - s) % 1024 ≤ n
reach s n h e =
    ⊎_elim
    (λ (p : eqb s 0 ≡ true). let z = eqb-true s 0 p in omega arith)
    (λ (p : eqb s 0 ≡ false).
    let q = leb-true 1024 (s + n) (rw p at e) in
    omega arith)
    (either (eqb s 0))

-- there is none: from s to s + n the remainders go up
no_reach : (s n : ℕ) → (eqb s 0 || leb 1024 (s + n)) ≡ false → (0 < s) × (s + n < 1024)
no_reach s n e =
    let p = eqb-false s 0 (or_left (eqb s 0) (leb 1024 (s + n)) e) in
    let q = leb-false 1024 (s + n) (or_right (eqb s 0) (leb 1024 (s + n)) e) in
    (by s p, omega arith)
  where
    by : (s : ℕ) → (s ≡ 0 → ⊥) → 0 < s
    by s p = omega arith

-- a remainder that stays below 1,024
below : (r i : ℕ) → r + i < 1024 → (r + i) % 1024 ≡ r + i
below r i h = mod-eq_of_lt h

-- from a remainder upward the weights rise to 512 and fall: each is at least that of one end
rise_and_fall : (r i n : ℕ) → i ≤ n → r + n < 1024 → min (rest_weight r) (rest_weight (r + n)) ≤ rest_weight (r + i)
rise_and_fall r i n h l =
    ⊎_elim
    (λ (p : r + i ≤ 512). let u = low (r + i) p in let v = low r (omega arith) in omega arith)
    (λ (p : 512 < r + i).
    let u = high (r + i) (omega arith) (omega arith) in
    let v = high (r + n) (omega arith) (omega arith) in
    omega arith)
    (le_or_lt (r + i) 512)

-- how far s is from 512
abbrev apart : ℕ → ℕ
apart s = (512 - s) + (s - 512)

-- the weight of a number, by its remainder with 512 added
turned : (r i : ℕ) → r < 1024 → (r + 512) % 1024 + i < 1024 → rest_weight ((r + i) % 1024) ≡ apart ((r + 512) % 1024 + i)
turned r i l h =
    ⊎_elim
    (λ (p : r < 512).
    let e : (r + 512) % 1024 ≡ r + 512 = mod-eq_of_lt (omega arith) in
    let f : (r + i) % 1024 ≡ r + i = mod-eq_of_lt (omega arith) in
    ap rest_weight f ∙ low (r + i) (omega arith) ∙ omega arith)
    (λ (p : 512 ≤ r).
    let e : (r + 512) % 1024 ≡ r - 512 = omega arith in
    ⊎_elim
    (λ (q : r + i < 1024). ap rest_weight (mod-eq_of_lt q) ∙ high (r + i) (omega arith) (omega arith) ∙ omega arith)
    (λ (q : 1024 ≤ r + i).
    let f : (r + i) % 1024 ≡ r + i - 1024 = omega arith in
    ap rest_weight f ∙ low (r + i - 1024) (omega arith) ∙ omega arith)
    (⊎_swap (le_or_lt 1024 (r + i))))
    (⊎_swap (le_or_lt 512 r))

apart_falls : (x y : ℕ) → x ≤ y → y ≤ 512 → apart y ≤ apart x
apart_falls x y h l = omega arith

apart_rises : (x y : ℕ) → 512 ≤ x → x ≤ y → apart x ≤ apart y
apart_rises x y h l = omega arith

-- from 0 to 512 the distance falls, and from there on it rises: each is at most that of one end
fall_and_rise : (s i n : ℕ) → i ≤ n → apart (s + i) ≤ max (apart (s + 0)) (apart (s + n))
fall_and_rise s i n h =
    ⊎_elim
    (λ (p : s + i ≤ 512). left_le (apart (s + i)) (apart (s + 0)) (apart (s + n)) (apart_falls (s + 0) (s + i) (omega arith) p))
    (λ (p : 512 < s + i). right_le (apart (s + i)) (apart (s + 0)) (apart (s + n)) (apart_rises (s + i) (s + n) (omega arith) (omega arith)))
    (le_or_lt (s + i) 512)
  where
    left_le : (x y z : ℕ) → x ≤ y → x ≤ max y z
    left_le x y z h = omega arith

    right_le : (x y z : ℕ) → x ≤ z → x ≤ max y z
    right_le x y z h = omega arith

module _ (a : ℤ) (n : ℕ) where
  even_odd_low : (i : ℕ) → i ≤ n → (0 < modℤ 1024 a) × (modℤ 1024 a + n < 1024) → min (weight_of EvenOdd a) (weight_of EvenOdd (a +ℤ pos n)) ≤ weight_of EvenOdd (a +ℤ pos i)
  even_odd_low i h s =
      let r = modℤ 1024 a in
      rw (moved 1024 a n (lit< tt), moved 1024 a i (lit< tt), below r n s.1, below r i (omega arith)) (rise_and_fall r i n h s.1)

  -- with 512 added the remainders go up: the weights go down to 0 and up again, or one way
  even_odd_high : (i : ℕ) → i ≤ n → (0 < (modℤ 1024 a + 512) % 1024) × ((modℤ 1024 a + 512) % 1024 + n < 1024) → weight_of EvenOdd (a +ℤ pos i) ≤ max (weight_of EvenOdd a) (weight_of EvenOdd (a +ℤ pos n))
  even_odd_high i h s =
      let r = modℤ 1024 a in
      let l = (remainder 1024 a (lit< tt)).low in
      let first : rest_weight r ≡ apart ((r + 512) % 1024 + 0) = ap rest_weight (sym (mod-eq_of_lt l) ∙ ap (λ (v : ℕ). v % 1024) (sym (add-zero r))) ∙ turned r 0 l (omega arith) in
      rw (moved 1024 a n (lit< tt), moved 1024 a i (lit< tt), first, turned r n l s.1, turned r i l (omega arith))
      (fall_and_rise ((r + 512) % 1024) i n h)

  multiple_met : (eqb (modℤ 1024 a) 0 || leb 1024 (modℤ 1024 a + n)) ≡ true → Met EvenOdd a n 0
  multiple_met e =
      let r = modℤ 1024 a in
      let l = (remainder 1024 a (lit< tt)).low in
      record { at = (1024 - r) % 1024; within = reach r n l e; is = weight_at a ((1024 - r) % 1024) ∙ by r l }
    where
      by : (r : ℕ) → r < 1024 → min ((r + (1024 - r) % 1024) % 1024) (1024 - (r + (1024 - r) % 1024) % 1024) ≡ 0
      by r l = omega arith

  odd_met : (eqb ((modℤ 1024 a + 512) % 1024) 0 || leb 1024 ((modℤ 1024 a + 512) % 1024 + n)) ≡ true → Met EvenOdd a n 512
  odd_met e =
      let r = modℤ 1024 a in
      let s = (r + 512) % 1024 in
      record {
        at = (1024 - s) % 1024;
        within = reach s n (mod-lt (r + 512) {m = 1024} (lit< tt)) e;
        is = weight_at a ((1024 - s) % 1024) ∙ by r (remainder 1024 a (lit< tt)).low;
      }
    where
      by : (r : ℕ) → r < 1024 → min ((r + (1024 - (r + 512) % 1024) % 1024) % 1024) (1024 - (r + (1024 - (r + 512) % 1024) % 1024) % 1024) ≡ 512
      by r l = omega arith

  even_odd_least : (t : Bool) → (eqb (modℤ 1024 a) 0 || leb 1024 (modℤ 1024 a + n)) ≡ t → Least EvenOdd a n (cond t 0 (min (weight_of EvenOdd a) (weight_of EvenOdd (a +ℤ pos n))))
  even_odd_least true e = record { met = multiple_met e; low = λ i h. omega arith }
  even_odd_least false e = record { met = lesser_met EvenOdd a n; low = λ i h. even_odd_low i h (no_reach (modℤ 1024 a) n e) }

  even_odd_greatest : (t : Bool) → (eqb ((modℤ 1024 a + 512) % 1024) 0 || leb 1024 ((modℤ 1024 a + 512) % 1024 + n)) ≡ t → Greatest EvenOdd a n (cond t 512 (max (weight_of EvenOdd a) (weight_of EvenOdd (a +ℤ pos n))))
  even_odd_greatest true e = record { met = odd_met e; high = λ i h. weight_le EvenOdd (a +ℤ pos i) }
  even_odd_greatest false e =
      record { met = greater_met EvenOdd a n; high = λ i h. even_odd_high i h (no_reach ((modℤ 1024 a + 512) % 1024) n e) }

-- ---- from a to b

module _ (a b : ℤ) (h : AtMost a b) where
  pub least_by_ends_lem : (rule : FillRule) → least_by_ends rule a b ≡ least_weight rule a b
  unfolding least_weight has_multiple
  least_by_ends_lem NonZero =
      let n = distance a b in
      ap (least_by_ends NonZero a) (far a b h)
      ∙ same_least (non_zero_least a n (has_zero a (a +ℤ pos n)) refl) (walk_least NonZero a n)
  least_by_ends_lem EvenOdd =
      let n = distance a b in
      let t = eqb (modℤ 1024 a) 0 || leb 1024 (modℤ 1024 a + n) in
      rw (+ℤ_idr a)
      (ap (λ (v : ℤ). cond t 0 (min (weight_of EvenOdd a) (weight_of EvenOdd v))) (far a b h)
      ∙ same_least (even_odd_least a n t refl) (walk_least EvenOdd a n))

  pub greatest_by_ends_lem : (rule : FillRule) → greatest_by_ends rule a b ≡ greatest_weight rule a b
  unfolding greatest_weight has_multiple
  greatest_by_ends_lem NonZero =
      let n = distance a b in
      ap (greatest_by_ends NonZero a) (far a b h) ∙ same_greatest (non_zero_greatest a n) (walk_greatest NonZero a n)
  greatest_by_ends_lem EvenOdd =
      let n = distance a b in
      let s = (modℤ 1024 a + 512) % 1024 in
      let t = eqb s 0 || leb 1024 (s + n) in
      rw (moved 1024 a 512 (lit< tt))
      (ap (λ (v : ℤ). cond t 512 (max (weight_of EvenOdd a) (weight_of EvenOdd v))) (far a b h)
      ∙ same_greatest (even_odd_greatest a n t refl) (walk_greatest EvenOdd a n))

-- ---- as the code goes: by its tests

module _ (a b : ℤ) (o : le_z a b ≡ true) where
  pub least_found : (rule : FillRule) → has_none rule a b ≡ true → 0 ≡ least_weight rule a b
  least_found rule e = rw e at (least_by_ends_lem a b (le_true a b o) rule)

  pub least_of_ends : (rule : FillRule) {r : ℕ} → has_none rule a b ≡ false → r ≡ min (weight_of rule a) (weight_of rule b) → r ≡ least_weight rule a b
  least_of_ends rule e q = q ∙ rw e at (least_by_ends_lem a b (le_true a b o) rule)

  pub greatest_found : has_multiple 512 a b ≡ true → 512 ≡ greatest_weight EvenOdd a b
  greatest_found e = rw e at (greatest_by_ends_lem a b (le_true a b o) EvenOdd)

  pub greatest_of_ends : {r : ℕ} → has_multiple 512 a b ≡ false → r ≡ max (weight_of EvenOdd a) (weight_of EvenOdd b) → r ≡ greatest_weight EvenOdd a b
  greatest_of_ends e q = q ∙ rw e at (greatest_by_ends_lem a b (le_true a b o) EvenOdd)

  pub greatest_of_both : {r : ℕ} → r ≡ max (weight_of NonZero a) (weight_of NonZero b) → r ≡ greatest_weight NonZero a b
  greatest_of_both q = q ∙ greatest_by_ends_lem a b (le_true a b o) NonZero
