-- An integer by its two parts, so that `omega`, which reads no ℤ, proves what is linear in integers.
-- `plus z` is max(z, 0) and `minus z` is max(-z, 0): z is their difference, and one of them is 0.
-- A law of an operation is an equation of the parts. A fact about integers is proved in three steps: state it of the parts, list the
-- operation's law, and let `omega` do the rest, as `omega (arith, added a b)`.
-- Assumes nothing.
use mathlib.Core.Path.{◌≡◌, refl, sym, ap, ◌∙◌}
use mathlib.Core.Bool.{Bool, true, false, not, cond, false≢true}
use Prim.Native.Nat.{ℕ, zero, suc, ◌+◌, ◌*◌, ◌-◌, ◌≤◌, ◌<◌, min}
use native.Mathlib.Nat.{mul-zero, mul-add, mul-le-mul_left}
use native.Mathlib.Omega.{arith}
use borrow.Author.Tests.{ltb-true, ltb-false, leb-true, lt-ltb, le-leb}
use lib.Dec.{T, ltb, ltb→lt, nltb→le}
use lib.Signed.{lt_z, le_z}
use lib.IntN.{ℤ, pos, negsuc, neg_ℤ, nat_abs, sub_ℕ, ◌+ℤ◌, ◌-ℤ◌, ◌*ℤ◌}
use Rattle.laws.specs.Integer.{plus, minus, AtMost}

-- what holds of every integer: one part is 0, and the absolute value is their sum
pub record Whole (z : ℤ) : Type 0 where
  pub one : min (plus z) (minus z) ≡ 0
  pub abs : nat_abs z ≡ plus z + minus z

pub whole : (z : ℤ) → Whole z
whole (pos n) = record { one = omega arith; abs = omega arith }
whole (negsuc n) = record { one = omega arith; abs = omega arith }

-- two integers are equal where their parts say so
pub equal : (a b : ℤ) → plus a + minus b ≡ plus b + minus a → a ≡ b
equal (pos m) (pos n) h = ap pos (omega arith)
equal (pos m) (negsuc n) h = absurd (omega arith)
equal (negsuc m) (pos n) h = absurd (omega arith)
equal (negsuc m) (negsuc n) h = ap negsuc (omega arith)

-- ---- the operations

-- z is a - b
pub record Difference (a b : ℕ) (z : ℤ) : Type 0 where
  pub eq : plus z + b ≡ minus z + a
  pub whole : Whole z

difference_by : (t : Bool) (a b : ℕ) → (T t → a < b) → (T (not t) → b ≤ a) → plus (cond t (negsuc (b - suc a)) (pos (a - b))) + b ≡ minus (cond t (negsuc (b - suc a)) (pos (a - b))) + a
difference_by true a b y n = let h : a < b = y tt in omega arith
difference_by false a b y n = let h : b ≤ a = n tt in omega arith

pub difference : (a b : ℕ) → Difference a b (sub_ℕ a b)
difference a b = record { eq = difference_by (ltb a b) a b (ltb→lt a b) (nltb→le a b); whole = whole (sub_ℕ a b) }

-- z is a + b
pub record Sum (a b z : ℤ) : Type 0 where
  pub eq : plus z + (minus a + minus b) ≡ minus z + (plus a + plus b)
  pub whole : Whole z
  pub left : Whole a
  pub right : Whole b

added_eq : (a b : ℤ) → plus (a +ℤ b) + (minus a + minus b) ≡ minus (a +ℤ b) + (plus a + plus b)
added_eq (pos a) (pos b) = omega arith
added_eq (pos a) (negsuc b) = omega (arith, difference a (suc b))
added_eq (negsuc a) (pos b) = omega (arith, difference b (suc a))
added_eq (negsuc a) (negsuc b) = omega arith

pub added : (a b : ℤ) → Sum a b (a +ℤ b)
added a b = record { eq = added_eq a b; whole = whole (a +ℤ b); left = whole a; right = whole b }

-- the opposite swaps the parts
pub plus_neg : (z : ℤ) → plus (neg_ℤ z) ≡ minus z
plus_neg (pos zero) = refl
plus_neg (pos (suc n)) = refl
plus_neg (negsuc n) = refl

pub minus_neg : (z : ℤ) → minus (neg_ℤ z) ≡ plus z
minus_neg (pos zero) = refl
minus_neg (pos (suc n)) = refl
minus_neg (negsuc n) = refl

-- z is a - b
pub record Less (a b z : ℤ) : Type 0 where
  pub eq : plus z + (minus a + plus b) ≡ minus z + (plus a + minus b)
  pub whole : Whole z
  pub left : Whole a
  pub right : Whole b

pub taken : (a b : ℤ) → Less a b (a -ℤ b)
taken a b =
    record {
      eq = omega (arith, added a (neg_ℤ b), plus_neg b, minus_neg b);
      whole = whole (a -ℤ b);
      left = whole a;
      right = whole b;
    }

-- z is k * b, for a natural k
pub record Times (k : ℕ) (b z : ℤ) : Type 0 where
  pub plus_is : plus z ≡ k * plus b
  pub minus_is : minus z ≡ k * minus b
  pub whole : Whole b

pub times : (k : ℕ) (b : ℤ) → Times k b (pos k *ℤ b)
times k b = record { plus_is = plus_by b; minus_is = minus_by b; whole = whole b }
  where
    plus_by : (b : ℤ) → plus (pos k *ℤ b) ≡ k * plus b
    plus_by (pos n) = refl
    plus_by (negsuc n) = plus_neg (pos (k * suc n)) ∙ sym (mul-zero k)

    minus_by : (b : ℤ) → minus (pos k *ℤ b) ≡ k * minus b
    minus_by (pos n) = sym (mul-zero k)
    minus_by (negsuc n) = minus_neg (pos (k * suc n))

pub abs_neg : (z : ℤ) → nat_abs (neg_ℤ z) ≡ nat_abs z
abs_neg (pos zero) = refl
abs_neg (pos (suc n)) = refl
abs_neg (negsuc n) = refl

-- the opposite passes through a product
pub times_neg : (k : ℕ) (b : ℤ) → pos k *ℤ neg_ℤ b ≡ neg_ℤ (pos k *ℤ b)
times_neg k b =
    let up : k * plus (neg_ℤ b) ≡ k * minus b = ap (λ (n : ℕ). k * n) (plus_neg b) in
    let down : k * minus (neg_ℤ b) ≡ k * plus b = ap (λ (n : ℕ). k * n) (minus_neg b) in
    equal (pos k *ℤ neg_ℤ b) (neg_ℤ (pos k *ℤ b)) (omega (arith, times k (neg_ℤ b), times k b, plus_neg (pos k *ℤ b), minus_neg (pos k *ℤ b)))

-- the absolute value of a product
pub abs_times : (a b : ℤ) → nat_abs (a *ℤ b) ≡ nat_abs a * nat_abs b
abs_times (pos a) (pos b) = refl
abs_times (pos a) (negsuc b) = abs_neg (pos (a * suc b))
abs_times (negsuc a) (pos b) = abs_neg (pos (suc a * b))
abs_times (negsuc a) (negsuc b) = refl

-- ---- the orders: what a signed test leaves, as a fact that `omega` reads

pub lt_true : (a b : ℤ) → lt_z a b ≡ true → plus a + minus b < plus b + minus a
lt_true (pos a) (pos b) e = omega (arith, ltb-true a b e)
lt_true (pos a) (negsuc b) e = absurd (false≢true e)
lt_true (negsuc a) (pos b) e = omega arith
lt_true (negsuc a) (negsuc b) e = omega (arith, ltb-true b a e)

pub lt_false : (a b : ℤ) → lt_z a b ≡ false → plus b + minus a ≤ plus a + minus b
lt_false (pos a) (pos b) e = omega (arith, ltb-false a b e)
lt_false (pos a) (negsuc b) e = omega arith
lt_false (negsuc a) (pos b) e = absurd (false≢true (sym e))
lt_false (negsuc a) (negsuc b) e = omega (arith, ltb-false b a e)

pub le_true : (a b : ℤ) → le_z a b ≡ true → plus a + minus b ≤ plus b + minus a
le_true (pos a) (pos b) e = omega (arith, leb-true a b e)
le_true (pos a) (negsuc b) e = absurd (false≢true e)
le_true (negsuc a) (pos b) e = omega arith
le_true (negsuc a) (negsuc b) e = omega (arith, leb-true b a e)

pub true_le : (a b : ℤ) → plus a + minus b ≤ plus b + minus a → le_z a b ≡ true
true_le (pos a) (pos b) h = le-leb a b (omega arith)
true_le (pos a) (negsuc b) h = absurd (omega arith)
true_le (negsuc a) (pos b) h = refl
true_le (negsuc a) (negsuc b) h = le-leb b a (omega arith)

pub true_lt : (a b : ℤ) → plus a + minus b < plus b + minus a → lt_z a b ≡ true
true_lt (pos a) (pos b) h = lt-ltb a b (omega arith)
true_lt (pos a) (negsuc b) h = absurd (omega arith)
true_lt (negsuc a) (pos b) h = refl
true_lt (negsuc a) (negsuc b) h = lt-ltb b a (omega arith)

-- ---- a is at most b, by the parts

-- sums are in the order of their summands, and so are products with a natural number
pub sum_most : (a b c d : ℤ) → AtMost a b → AtMost c d → AtMost (a +ℤ c) (b +ℤ d)
sum_most a b c d h k = omega (arith, added a c, added b d)

pub times_most : (k : ℕ) (a b : ℤ) → AtMost a b → AtMost (pos k *ℤ a) (pos k *ℤ b)
times_most k a b h =
    rw ((times k a).plus_is, (times k a).minus_is, (times k b).plus_is, (times k b).minus_is, ← mul-add k (plus a) (minus b), ← mul-add k (plus b) (minus a))
    (mul-le-mul_left k h)

-- an equal number is at most the other
pub most_of : {a b : ℤ} → a ≡ b → AtMost a b
most_of {a} {b} e = rw e (omega arith)
