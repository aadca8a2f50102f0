-- Laws of sums over filtered lists. Assumes nothing.
use mathlib.Core.Path.{◌≡◌, refl, sym, ap, ap₂, ◌∙◌}
use mathlib.Core.Bool.{Bool, true, false, cond, ◌&&◌, false≢true}
use mathlib.Core.List.{List, [], ◌∷◌, ◌++◌}
use Prim.Native.Nat.{ℕ, suc, ◌+◌, ◌≤◌, ◌<◌}
use native.Mathlib.Omega.{arith}
use native.Mathlib.Numerals.{add-one}
use borrow.Author.Tests.{eqb-true, eq-eqb}
use lib.Dec.{eqb}
use lib.IntN.{ℤ, pos, neg_ℤ, nat_abs, ◌+ℤ◌, +ℤ_idl, +ℤ_assoc, +ℤ_comm, neg_ℤ-+ℤ}
use lib.ListN.{length, get_or, drop, drop_of_length-le}
use lib.Seq.{drop-cons}
use Rattle.laws.specs.Sum.{sum_by, sumℤ, sumℕ, count_by}
use Rattle.laws.specs.Lists.{all, filter}
use Rattle.laws.proofs.Parts.{added, sum_most, equal}
use Rattle.laws.proofs.Bools.{left, right}
use Rattle.laws.specs.Integer.{AtMost}

module _ {A : Type 0} (add : A → A → A) (z : A) where
  -- what is left of a list, a word at a time: how a loop over a slice goes
  pub sum_step : (p : ℕ → Bool) (f : ℕ → A) (l : List ℕ) (i : ℕ) → i < length l → sum_by add z p f (drop i l) ≡ add (cond (p (get_or l i 0)) (f (get_or l i 0)) z) (sum_by add z p f (drop (i + 1) l))
  sum_step p f l i h = rw add-one (ap (sum_by add z p f) (drop-cons l i 0 h))

  pub sum_end : (p : ℕ → Bool) (f : ℕ → A) (l : List ℕ) (i : ℕ) → length l ≤ i → sum_by add z p f (drop i l) ≡ z
  sum_end p f l i h = ap (sum_by add z p f) (drop_of_length-le l h)

  -- two tests that agree on a list's elements, and two summands
  pub sum_ext : (p q : ℕ → Bool) (f g : ℕ → A) (xs : List ℕ) → ((w : ℕ) → cond (p w) (f w) z ≡ cond (q w) (g w) z) → sum_by add z p f xs ≡ sum_by add z q g xs
  sum_ext p q f g [] h = refl
  sum_ext p q f g (x ∷ xs) h = ap₂ add (h x) (sum_ext p q f g xs h)

  -- the same, of the elements that pass a test which all of the list pass
  pub sum_ext_on : (on : ℕ → Bool) (p q : ℕ → Bool) (f : ℕ → A) (xs : List ℕ) → all on xs ≡ true → ((w : ℕ) → on w ≡ true → p w ≡ q w) → sum_by add z p f xs ≡ sum_by add z q f xs
  sum_ext_on on p q f [] a h = refl
  sum_ext_on on p q f (x ∷ xs) a h =
      ap₂ add (ap (λ (t : Bool). cond t (f x) z) (h x (left (on x) (all on xs) a)))
      (sum_ext_on on p q f xs (right (on x) (all on xs) a) h)

  module _ (idl : (a : A) → add z a ≡ a) where
    -- a test that nothing passes
    pub sum_none : (p : ℕ → Bool) (f : ℕ → A) (xs : List ℕ) → all (λ w. cond (p w) false true) xs ≡ true → sum_by add z p f xs ≡ z
    sum_none p f [] h = refl
    sum_none p f (x ∷ xs) h =
        ap₂ add (missed (p x) (left (cond (p x) false true) (all (λ w. cond (p w) false true) xs) h))
        (sum_none p f xs (right (cond (p x) false true) (all (λ w. cond (p w) false true) xs) h))
        ∙ idl z
      where
        missed : (t : Bool) → cond t false true ≡ true → cond t (f x) z ≡ z
        missed true e = absurd (false≢true e)
        missed false e = refl

    -- the elements that fail a wider test add nothing
    pub sum_filter : (p q : ℕ → Bool) (f : ℕ → A) (xs : List ℕ) → sum_by add z (λ w. p w && q w) f xs ≡ sum_by add z q f (filter p xs)
    sum_filter p q f [] = refl
    sum_filter p q f (x ∷ xs) = ap (add (cond (p x && q x) (f x) z)) (sum_filter p q f xs) ∙ join (p x)
      where
        join : (t : Bool) → add (cond (t && q x) (f x) z) (sum_by add z q f (filter p xs)) ≡ sum_by add z q f (cond t (x ∷ filter p xs) (filter p xs))
        join true = refl
        join false = idl (sum_by add z q f (filter p xs))

    module _ (assoc : (a b c : A) → add (add a b) c ≡ add a (add b c)) where
      -- the sum of two lists joined is the sum of their sums
      pub sum_append : (p : ℕ → Bool) (f : ℕ → A) (xs ys : List ℕ) → sum_by add z p f (xs ++ ys) ≡ add (sum_by add z p f xs) (sum_by add z p f ys)
      sum_append p f [] ys = sym (idl (sum_by add z p f ys))
      sum_append p f (x ∷ xs) ys =
          ap (add (cond (p x) (f x) z)) (sum_append p f xs ys)
          ∙ sym (assoc (cond (p x) (f x) z) (sum_by add z p f xs) (sum_by add z p f ys))

-- ---- sums of whole numbers

pub sumℤ_append : (p : ℕ → Bool) (f : ℕ → ℤ) (xs ys : List ℕ) → sumℤ p f (xs ++ ys) ≡ sumℤ p f xs +ℤ sumℤ p f ys
sumℤ_append = sum_append ◌+ℤ◌ (pos 0) +ℤ_idl +ℤ_assoc

-- in either order
pub sumℤ_swap : (p : ℕ → Bool) (f : ℕ → ℤ) (xs ys : List ℕ) → sumℤ p f (xs ++ ys) ≡ sumℤ p f (ys ++ xs)
sumℤ_swap p f xs ys =
    sumℤ_append p f xs ys ∙ +ℤ_comm (sumℤ p f xs) (sumℤ p f ys) ∙ sym (sumℤ_append p f ys xs)

pub cond_neg : (t : Bool) (a : ℤ) → cond t (neg_ℤ a) (pos 0) ≡ neg_ℤ (cond t a (pos 0))
cond_neg true a = refl
cond_neg false a = refl

-- the sum of opposites is the opposite
pub sumℤ_neg : (p : ℕ → Bool) (f : ℕ → ℤ) (xs : List ℕ) → sumℤ p (λ w. neg_ℤ (f w)) xs ≡ neg_ℤ (sumℤ p f xs)
sumℤ_neg p f [] = refl
sumℤ_neg p f (x ∷ xs) =
    ap₂ ◌+ℤ◌ (cond_neg (p x) (f x)) (sumℤ_neg p f xs)
    ∙ sym (neg_ℤ-+ℤ (cond (p x) (f x) (pos 0)) (sumℤ p f xs))

-- (a + b) + (c + d) is (a + c) + (b + d)
shuffle : (a b c d : ℤ) → a +ℤ b +ℤ (c +ℤ d) ≡ a +ℤ c +ℤ (b +ℤ d)
shuffle a b c d =
    equal (a +ℤ b +ℤ (c +ℤ d)) (a +ℤ c +ℤ (b +ℤ d))
    (omega (arith, added a b, added c d, added (a +ℤ b) (c +ℤ d), added a c, added b d, added (a +ℤ c) (b +ℤ d)))

-- a test that is one of two others, never both
pub sumℤ_split : (p q r : ℕ → Bool) (f : ℕ → ℤ) (xs : List ℕ) → ((w : ℕ) → cond (p w) (f w) (pos 0) ≡ cond (q w) (f w) (pos 0) +ℤ cond (r w) (f w) (pos 0)) → sumℤ p f xs ≡ sumℤ q f xs +ℤ sumℤ r f xs
sumℤ_split p q r f [] h = refl
sumℤ_split p q r f (x ∷ xs) h =
    ap₂ ◌+ℤ◌ (h x) (sumℤ_split p q r f xs h)
    ∙ shuffle (cond (q x) (f x) (pos 0)) (cond (r x) (f x) (pos 0)) (sumℤ q f xs) (sumℤ r f xs)

-- ---- bounds

-- a number that is counted or not, by its absolute value
pub abs_cond : (t : Bool) (a : ℤ) → nat_abs (cond t a (pos 0)) ≡ cond t (nat_abs a) 0
abs_cond true a = refl
abs_cond false a = refl

-- the triangle inequality
pub abs_add : (a b : ℤ) → nat_abs (a +ℤ b) ≤ nat_abs a + nat_abs b
abs_add a b = omega (arith, added a b)

-- the absolute sum is within the sum of the absolute values
pub sum_abs : (p : ℕ → Bool) (f : ℕ → ℤ) (xs : List ℕ) → nat_abs (sumℤ p f xs) ≤ sumℕ p (λ w. nat_abs (f w)) xs
sum_abs p f [] = omega arith
sum_abs p f (x ∷ xs) =
    omega (arith, sum_abs p f xs, abs_add (cond (p x) (f x) (pos 0)) (sumℤ p f xs), abs_cond (p x) (f x))

-- a narrower test gives no larger sum of naturals
pub sumℕ_le : (p q : ℕ → Bool) (f : ℕ → ℕ) (xs : List ℕ) → ((w : ℕ) → p w ≡ true → q w ≡ true) → sumℕ p f xs ≤ sumℕ q f xs
sumℕ_le p q f [] h = omega arith
sumℕ_le p q f (x ∷ xs) h = omega (arith, sumℕ_le p q f xs h, narrower (p x) (q x) (f x) (h x))
  where
    narrower : (a b : Bool) (n : ℕ) → (a ≡ true → b ≡ true) → cond a n 0 ≤ cond b n 0
    narrower true true n i = omega arith
    narrower true false n i = absurd (false≢true (i refl))
    narrower false b n i = omega arith

-- ---- two lists term by term

-- sums of whole numbers are in the order of their terms
pub sumℤ_le : (p q : ℕ → Bool) (f g : ℕ → ℤ) (xs ys : List ℕ) → length xs ≡ length ys
    → ((i : ℕ) → i < length xs → AtMost (cond (p (get_or xs i 0)) (f (get_or xs i 0)) (pos 0)) (cond (q (get_or ys i 0)) (g (get_or ys i 0)) (pos 0)))
    → AtMost (sumℤ p f xs) (sumℤ q g ys)
sumℤ_le p q f g [] [] e h = omega arith
sumℤ_le p q f g [] (y ∷ ys) e h = absurd (omega (arith, e))
sumℤ_le p q f g (x ∷ xs) [] e h = absurd (omega (arith, e))
sumℤ_le p q f g (x ∷ xs) (y ∷ ys) e h =
    sum_most (cond (p x) (f x) (pos 0)) (cond (q y) (g y) (pos 0)) (sumℤ p f xs) (sumℤ q g ys) (h 0 (omega arith))
    (sumℤ_le p q f g xs ys (omega (arith, e)) (λ i l. h (suc i) (omega arith)))

-- and so are sums of natural numbers
pub sumℕ_each : (p q : ℕ → Bool) (f g : ℕ → ℕ) (xs ys : List ℕ) → length xs ≡ length ys
    → ((i : ℕ) → i < length xs → cond (p (get_or xs i 0)) (f (get_or xs i 0)) 0 ≤ cond (q (get_or ys i 0)) (g (get_or ys i 0)) 0)
    → sumℕ p f xs ≤ sumℕ q g ys
sumℕ_each p q f g [] [] e h = omega arith
sumℕ_each p q f g [] (y ∷ ys) e h = absurd (omega (arith, e))
sumℕ_each p q f g (x ∷ xs) [] e h = absurd (omega (arith, e))
sumℕ_each p q f g (x ∷ xs) (y ∷ ys) e h =
    let first : cond (p x) (f x) 0 ≤ cond (q y) (g y) 0 = h 0 (omega arith) in
    omega (arith, sumℕ_each p q f g xs ys (omega (arith, e)) (λ i l. h (suc i) (omega arith)))

-- ---- lists with the same elements, each as often

-- a list without the first element that is x
without : ℕ → List ℕ → List ℕ
without x [] = []
without x (y ∷ ys) = cond (eqb x y) ys (y ∷ without x ys)

module _ {A : Type 0} (add : A → A → A) (z : A) (swap : (a b c : A) → add a (add b c) ≡ add b (add a c)) where
  -- one element taken out and put first
  sum_without : (p : ℕ → Bool) (f : ℕ → A) (x : ℕ) (ys : List ℕ) → 0 < count_by (eqb x) ys → sum_by add z p f ys ≡ add (cond (p x) (f x) z) (sum_by add z p f (without x ys))
  unfolding without
  sum_without p f x [] h = absurd (omega arith)
  sum_without p f x (y ∷ ys) h = by (eqb x y) refl h (sum_without p f x ys)
    where
      by : (t : Bool) → eqb x y ≡ t → 0 < cond t 1 0 + count_by (eqb x) ys → (0 < count_by (eqb x) ys → sum_by add z p f ys ≡ add (cond (p x) (f x) z) (sum_by add z p f (without x ys))) → sum_by add z p f (y ∷ ys) ≡ add (cond (p x) (f x) z) (sum_by add z p f (cond t ys (y ∷ without x ys)))
      by true e l r = ap (λ (v : ℕ). add (cond (p v) (f v) z) (sum_by add z p f ys)) (sym (eqb-true x y e))
      by false e l r =
          ap (add (cond (p y) (f y) z)) (r (omega arith))
          ∙ swap (cond (p y) (f y) z) (cond (p x) (f x) z) (sum_by add z p f (without x ys))

swapℕ : (a b c : ℕ) → a + (b + c) ≡ b + (a + c)
swapℕ a b c = omega arith

swapℤ : (a b c : ℤ) → a +ℤ (b +ℤ c) ≡ b +ℤ (a +ℤ c)
swapℤ a b c = sym (+ℤ_assoc a b c) ∙ ap (λ (s : ℤ). s +ℤ c) (+ℤ_comm a b) ∙ +ℤ_assoc b a c

-- an element of a list stands in it
first_counted : (x : ℕ) (xs : List ℕ) → 0 < count_by (eqb x) (x ∷ xs)
first_counted x xs = rw (eq-eqb x x refl) (omega arith)

module _ {A : Type 0} (add : A → A → A) (z : A) (swap : (a b c : A) → add a (add b c) ≡ add b (add a c)) where
  pub sum_same : (p : ℕ → Bool) (f : ℕ → A) (xs ys : List ℕ) → ((v : ℕ) → count_by (eqb v) xs ≡ count_by (eqb v) ys) → sum_by add z p f xs ≡ sum_by add z p f ys
  sum_same p f [] [] h = refl
  sum_same p f [] (y ∷ ys) h = absurd (omega (arith, h y, first_counted y ys))
  sum_same p f (x ∷ xs) ys h =
      let l : 0 < count_by (eqb x) ys = omega (arith, h x, first_counted x xs) in
      ap (add (cond (p x) (f x) z))
      (sum_same p f xs (without x ys) (λ v. omega (arith, h v, sum_without ◌+◌ 0 swapℕ (eqb v) (λ w. 1) x ys l)))
      ∙ sym (sum_without add z swap p f x ys l)

pub sumℕ_same : (p : ℕ → Bool) (f : ℕ → ℕ) (xs ys : List ℕ) → ((v : ℕ) → count_by (eqb v) xs ≡ count_by (eqb v) ys) → sumℕ p f xs ≡ sumℕ p f ys
sumℕ_same = sum_same ◌+◌ 0 swapℕ

pub sumℤ_same : (p : ℕ → Bool) (f : ℕ → ℤ) (xs ys : List ℕ) → ((v : ℕ) → count_by (eqb v) xs ≡ count_by (eqb v) ys) → sumℤ p f xs ≡ sumℤ p f ys
sumℤ_same = sum_same ◌+ℤ◌ (pos 0) swapℤ

-- one element more
pub sumℤ_more : (p : ℕ → Bool) (f : ℕ → ℤ) (w : ℕ) (xs ys : List ℕ) → ((v : ℕ) → count_by (eqb v) ys ≡ cond (eqb v w) 1 0 + count_by (eqb v) xs) → sumℤ p f ys ≡ cond (p w) (f w) (pos 0) +ℤ sumℤ p f xs
sumℤ_more p f w xs ys h = sumℤ_same p f ys (w ∷ xs) h
