-- Laws of filtered lists: a list that passes a test whole, or nowhere, and a part in the middle of a list. Assumes nothing.
use mathlib.Core.Path.{◌≡◌, refl, ap, ap₂, ◌∙◌}
use mathlib.Core.Bool.{Bool, true, false, cond, not, ◌&&◌, false≢true}
use mathlib.Core.List.{List, [], ◌∷◌, ◌++◌, append-nil}
use Prim.Native.Nat.{◌≤◌}
use native.Mathlib.Omega.{arith}
use lib.ListN.{length}
use Rattle.laws.specs.Lists.{all, filter}
use Rattle.laws.proofs.Bools.{left, right, both}

module _ {A : Type 0} (p : A → Bool) where
  pub filter_all : (xs : List A) → all p xs ≡ true → filter p xs ≡ xs
  filter_all [] h = refl
  filter_all (x ∷ xs) h = by (p x) (left (p x) (all p xs) h) ∙ ap (λ (r : List A). x ∷ r) (filter_all xs (right (p x) (all p xs) h))
    where
      by : (t : Bool) → t ≡ true → cond t (x ∷ filter p xs) (filter p xs) ≡ x ∷ filter p xs
      by true e = refl
      by false e = absurd (false≢true e)

  pub filter_none : (xs : List A) → all (λ x. not (p x)) xs ≡ true → filter p xs ≡ []
  filter_none [] h = refl
  filter_none (x ∷ xs) h = by (p x) (left (not (p x)) (all (λ y. not (p y)) xs) h) ∙ filter_none xs (right (not (p x)) (all (λ y. not (p y)) xs) h)
    where
      by : (t : Bool) → not t ≡ true → cond t (x ∷ filter p xs) (filter p xs) ≡ filter p xs
      by true e = absurd (false≢true e)
      by false e = refl

  pub filter_append : (xs ys : List A) → filter p (xs ++ ys) ≡ filter p xs ++ filter p ys
  filter_append [] ys = refl
  filter_append (x ∷ xs) ys = ap (λ (r : List A). cond (p x) (x ∷ r) r) (filter_append xs ys) ∙ out (p x)
    where
      out : (t : Bool) → cond t (x ∷ (filter p xs ++ filter p ys)) (filter p xs ++ filter p ys) ≡ cond t (x ∷ filter p xs) (filter p xs) ++ filter p ys
      out true = refl
      out false = refl

  -- what passes is one part in the middle
  pub filter_middle : (xs ys zs : List A) → all (λ x. not (p x)) xs ≡ true → all p ys ≡ true → all (λ x. not (p x)) zs ≡ true → filter p (xs ++ (ys ++ zs)) ≡ ys
  filter_middle xs ys zs a b c =
      filter_append xs (ys ++ zs)
      ∙ ap₂ ◌++◌ (filter_none xs a) (filter_append ys zs ∙ ap₂ ◌++◌ (filter_all ys b) (filter_none zs c))
      ∙ append-nil ys

-- ---- tests of what is kept

-- what passes a test passes it
pub all_own : {A : Type 0} (p : A → Bool) (l : List A) → all p (filter p l) ≡ true
all_own p [] = refl
all_own p (x ∷ xs) = by (p x) refl (all_own p xs)
  where
    by : (t : Bool) → p x ≡ t → all p (filter p xs) ≡ true → all p (cond t (x ∷ filter p xs) (filter p xs)) ≡ true
    by true e h = both (p x) (all p (filter p xs)) e h
    by false e h = h

-- what all pass, those that are kept pass
pub all_kept : {A : Type 0} (p q : A → Bool) (l : List A) → all q l ≡ true → all q (filter p l) ≡ true
all_kept p q [] h = refl
all_kept p q (x ∷ xs) h = by (p x) (all_kept p q xs (right (q x) (all q xs) h))
  where
    by : (t : Bool) → all q (filter p xs) ≡ true → all q (cond t (x ∷ filter p xs) (filter p xs)) ≡ true
    by true r = both (q x) (all q (filter p xs)) (left (q x) (all q xs) h) r
    by false r = r

-- two tests that agree keep the same
pub filter_ext : {A : Type 0} (p q : A → Bool) (l : List A) → ((x : A) → p x ≡ q x) → filter p l ≡ filter q l
filter_ext p q [] h = refl
filter_ext {A} p q (x ∷ xs) h = ap₂ (λ (t : Bool) (r : List A). cond t (x ∷ r) r) (h x) (filter_ext p q xs h)

-- to filter twice is to filter by both tests
pub filter_twice : {A : Type 0} (p q : A → Bool) (l : List A) → filter q (filter p l) ≡ filter (λ x. p x && q x) l
filter_twice p q [] = refl
filter_twice {A} p q (x ∷ xs) = by (p x) (filter_twice p q xs)
  where
    by : (t : Bool) → filter q (filter p xs) ≡ filter (λ y. p y && q y) xs → filter q (cond t (x ∷ filter p xs) (filter p xs)) ≡ cond (t && q x) (x ∷ filter (λ y. p y && q y) xs) (filter (λ y. p y && q y) xs)
    by true r = ap (λ (ys : List A). cond (q x) (x ∷ ys) ys) r
    by false r = r

pub length_filter : {A : Type 0} (p : A → Bool) (l : List A) → length (filter p l) ≤ length l
length_filter p [] = omega arith
length_filter p (x ∷ xs) = by (p x) (length_filter p xs)
  where
    by : (t : Bool) → length (filter p xs) ≤ length xs → length (cond t (x ∷ filter p xs) (filter p xs)) ≤ length (x ∷ xs)
    by true h = omega arith
    by false h = omega arith
