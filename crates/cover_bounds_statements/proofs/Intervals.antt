-- Laws of the walk over an interval: its least and its greatest weight are each met by a number of the interval, and no number's weight lies
-- outside them; and whatever is so is the least or the greatest weight. Assumes nothing.
use Rattle.std.specs.Prelude.{◌≡◌, ◌≤◌, ◌+ℤ◌}
use Rattle.laws.proofs.Prelude.{refl, ap, subst, true, ⊎_elim, ℕ, zero, suc, arith, eq-or-lt_of_le, ℤ, pos, +ℤ_idr, is_within, AtMost}
use Rattle.laws.proofs.Prelude.{le_or_lt, added, taken, equal, is_within_lem}
use Rattle.laws.proofs.Ranges.{within}
use Rattle.styling.specs.declared.FillRule.{FillRule}
use Rattle.cover_statements.specs.Weight.{weight_of}
use Rattle.cover_bounds_statements.specs.Interval.{least_over, greatest_over, distance, least_weight, greatest_weight, LeastFrom, GreatestFrom}

-- ---- over a, a + 1, .., a + n

-- w is the weight of one of the numbers
pub record Met (rule : FillRule) (a : ℤ) (n w : ℕ) : Type 0 where
  pub at : ℕ
  pub within : at ≤ n
  pub is : weight_of rule (a +ℤ pos at) ≡ w

pub record Least (rule : FillRule) (a : ℤ) (n w : ℕ) : Type 0 where
  pub met : Met rule a n w
  pub low : (i : ℕ) → i ≤ n → w ≤ weight_of rule (a +ℤ pos i)

pub record Greatest (rule : FillRule) (a : ℤ) (n w : ℕ) : Type 0 where
  pub met : Met rule a n w
  pub high : (i : ℕ) → i ≤ n → weight_of rule (a +ℤ pos i) ≤ w

module _ (rule : FillRule) (a : ℤ) where
  -- the first number
  first : weight_of rule (a +ℤ pos 0) ≡ weight_of rule a
  first = ap (weight_of rule) (+ℤ_idr a)

  farther : {n w : ℕ} → Met rule a n w → Met rule a (suc n) w
  farther m = record { at = m.at; within = omega (arith, m.within); is = m.is }

  last_met : (n : ℕ) → Met rule a (suc n) (weight_of rule (a +ℤ pos (suc n)))
  last_met n = record { at = suc n; within = omega arith; is = refl }

  pub walk_least : (n : ℕ) → Least rule a n (least_over rule a n)
  walk_least zero =
      record {
        met = record { at = 0; within = omega arith; is = first };
        low = λ i h. let e : i ≡ 0 = omega arith in rw (e, first) (omega arith);
      }
  walk_least (suc n) =
      let r = walk_least n in
      let v = weight_of rule (a +ℤ pos (suc n)) in
      record {
        met =
            ⊎_elim
            (λ (h : least_over rule a n ≤ v). subst (Met rule a (suc n)) (omega arith) (farther r.met))
            (λ h. subst (Met rule a (suc n)) (omega arith) (last_met n))
            (le_or_lt (least_over rule a n) v);
        low =
            λ i h.
            ⊎_elim
            (λ (e : i ≡ suc n). rw e (omega arith))
            (λ l. omega (arith, r.low i (omega arith)))
            (eq-or-lt_of_le {n = i} {m = suc n} h);
      }

  pub walk_greatest : (n : ℕ) → Greatest rule a n (greatest_over rule a n)
  walk_greatest zero =
      record {
        met = record { at = 0; within = omega arith; is = first };
        high = λ i h. let e : i ≡ 0 = omega arith in rw (e, first) (omega arith);
      }
  walk_greatest (suc n) =
      let r = walk_greatest n in
      let v = weight_of rule (a +ℤ pos (suc n)) in
      record {
        met =
            ⊎_elim
            (λ (h : v ≤ greatest_over rule a n). subst (Met rule a (suc n)) (omega arith) (farther r.met))
            (λ h. subst (Met rule a (suc n)) (omega arith) (last_met n))
            (le_or_lt v (greatest_over rule a n));
        high =
            λ i h.
            ⊎_elim
            (λ (e : i ≡ suc n). rw e (omega arith))
            (λ l. omega (arith, r.high i (omega arith)))
            (eq-or-lt_of_le {n = i} {m = suc n} h);
      }

-- there is one least weight, and one greatest
pub same_least : {rule : FillRule} {a : ℤ} {n w v : ℕ} → Least rule a n w → Least rule a n v → w ≡ v
same_least x y =
    omega (arith, x.low y.met.at y.met.within, y.met.is, y.low x.met.at x.met.within, x.met.is)

pub same_greatest : {rule : FillRule} {a : ℤ} {n w v : ℕ} → Greatest rule a n w → Greatest rule a n v → w ≡ v
same_greatest x y =
    omega (arith, x.high y.met.at y.met.within, y.met.is, y.high x.met.at x.met.within, x.met.is)

-- ---- from a to b

-- a number that is not below a is as far above it as `distance` says
pub far : (a d : ℤ) → AtMost a d → d ≡ a +ℤ pos (distance a d)
far a d h = equal d (a +ℤ pos (distance a d)) (omega (arith, taken d a, added a (pos (distance a d))))

pub nearer : (a d b : ℤ) → AtMost a d → AtMost d b → distance a d ≤ distance a b
nearer a d b h k = omega (arith, taken d a, taken b a)

step_above : (a : ℤ) (i : ℕ) → AtMost a (a +ℤ pos i)
step_above a i = omega (arith, added a (pos i))

step_below : (a b : ℤ) (i : ℕ) → AtMost a b → i ≤ distance a b → AtMost (a +ℤ pos i) b
step_below a b i h k = omega (arith, taken b a, added a (pos i))

module _ (rule : FillRule) (a b : ℤ) (h : AtMost a b) where
  -- a number from a to b, by how far it lies above a
  weight_at : (d : ℤ) → is_within a b d ≡ true → weight_of rule d ≡ weight_of rule (a +ℤ pos (distance a d))
  weight_at d e = ap (weight_of rule) (far a d (within a b d e).above)

  near : (d : ℤ) → is_within a b d ≡ true → distance a d ≤ distance a b
  near d e = let w = within a b d e in nearer a d b w.above w.below

  inner : (i : ℕ) → i ≤ distance a b → is_within a b (a +ℤ pos i) ≡ true
  inner i k = is_within_lem a b (a +ℤ pos i) (step_above a i) (step_below a b i h k)

  -- each bound is the weight of some number of the interval, and no number's weight is outside
  pub least_is : LeastFrom rule a b (least_weight rule a b)
  unfolding least_weight
  least_is =
      let w = walk_least rule a (distance a b) in
      record {
        number = a +ℤ pos w.met.at;
        inside = inner w.met.at w.met.within;
        weight_is = w.met.is;
        low = λ d e. rw (weight_at d e) (w.low (distance a d) (near d e));
      }

  pub greatest_is : GreatestFrom rule a b (greatest_weight rule a b)
  unfolding greatest_weight
  greatest_is =
      let w = walk_greatest rule a (distance a b) in
      record {
        number = a +ℤ pos w.met.at;
        inside = inner w.met.at w.met.within;
        weight_is = w.met.is;
        high = λ d e. rw (weight_at d e) (w.high (distance a d) (near d e));
      }

-- one number's interval
none_far : (d : ℤ) → distance d d ≡ 0
none_far d = omega (arith, taken d d)

pub least_one : (rule : FillRule) (d : ℤ) → least_weight rule d d ≡ weight_of rule d
unfolding least_weight
least_one rule d = ap (least_over rule d) (none_far d)

pub greatest_one : (rule : FillRule) (d : ℤ) → greatest_weight rule d d ≡ weight_of rule d
unfolding greatest_weight
greatest_one rule d = ap (greatest_over rule d) (none_far d)

-- a narrower interval has no lesser least weight and no greater greatest one
module _ (rule : FillRule) (a b a' b' : ℤ) (left : AtMost a a') (h : AtMost a' b') (right : AtMost b' b) where
  wider : (d : ℤ) → is_within a' b' d ≡ true → is_within a b d ≡ true
  wider d e =
      let w = within a' b' d e in
      is_within_lem a b d (omega (arith, w.above)) (omega (arith, w.below))

  whole_interval : AtMost a b
  whole_interval = omega arith

  pub narrower_least : least_weight rule a b ≤ least_weight rule a' b'
  narrower_least =
      let n = least_is rule a' b' h in
      omega (arith, (least_is rule a b whole_interval).low n.number (wider n.number n.inside), n.weight_is)

  pub narrower_greatest : greatest_weight rule a' b' ≤ greatest_weight rule a b
  narrower_greatest =
      let n = greatest_is rule a' b' h in
      omega (arith, (greatest_is rule a b whole_interval).high n.number (wider n.number n.inside), n.weight_is)
