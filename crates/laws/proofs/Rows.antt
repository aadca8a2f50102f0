-- Lists given by their elements, and a lent list that is filled from the front. Assumes nothing.
use mathlib.Core.Path.{◌≡◌, refl, sym, ap, ◌∙◌}
use mathlib.Core.List.{List, ◌++◌}
use Prim.Native.Nat.{ℕ, zero, suc, ◌+◌, ◌≤◌, ◌<◌}
use native.Mathlib.Numerals.{add-one}
use native.Mathlib.Nat.{le_of_suc-le-suc, not-suc-le-zero}
use native.Mathlib.Omega.{arith}
use lib.ListN.{length, get_or, take, drop, set, length-append, length-take, length-drop}
use lib.Seq.{ext_get_or, drop-cons, set_at, append_snoc, take-suc, take_all, length-take-le}
use Rattle.laws.specs.Lists.{tabulate, over}

pub length_tabulate {ℓ} : {A : Type ℓ} (n : ℕ) (f : ℕ → A) → length (tabulate n f) ≡ n
length_tabulate zero f = refl
length_tabulate (suc n) f = ap suc (length_tabulate n (λ i. f (suc i)))

pub get_d_tabulate {ℓ} : {A : Type ℓ} (n : ℕ) (f : ℕ → A) (d : A) (i : ℕ) → i < n → get_or (tabulate n f) i d ≡ f i
get_d_tabulate zero f d i h = absurd (not-suc-le-zero h)
get_d_tabulate (suc n) f d zero h = refl
get_d_tabulate (suc n) f d (suc i) h = get_d_tabulate n (λ j. f (suc j)) d i (le_of_suc-le-suc h)

-- a list is its elements
pub is_tabulate {ℓ} : {A : Type ℓ} (n : ℕ) (f : ℕ → A) (d : A) (l : List A) → length l ≡ n → ((i : ℕ) → i < n → get_or l i d ≡ f i) → l ≡ tabulate n f
is_tabulate n f d l e h =
    ext_get_or d l (tabulate n f) (e ∙ sym (length_tabulate n f))
    (λ i p. let q : i < n = omega arith in h i q ∙ sym (get_d_tabulate n f d i q))

-- ---- a buffer d that is filled from the front with the list s, n elements so far

abbrev pub filled {ℓ} : {A : Type ℓ} → List A → List A → ℕ → List A
filled d s n = take n s ++ drop n d

module _ {ℓ} {A : Type ℓ} (d s : List A) where
  pub length_filled : (n : ℕ) → n ≤ length d → n ≤ length s → length (filled d s n) ≡ length d
  length_filled n h k = simp (length-append, length-take, length-drop) (omega arith)

  -- a store of the next element
  pub filled_more : (n : ℕ) (z : A) → n < length d → n < length s → set (filled d s n) n (get_or s n z) ≡ filled d s (n + 1)
  filled_more n z h k =
      rw add-one
      (ap (λ (r : List A). set (take n s ++ r) n (get_or s n z)) (drop-cons d n z h)
      ∙ set_at (take n s) (get_or d n z) (drop (suc n) d) (get_or s n z) n (length-take-le n s (omega arith))
      ∙ sym (append_snoc (take n s) (get_or s n z) (drop (suc n) d))
      ∙ ap (λ (r : List A). r ++ drop (suc n) d) (sym (take-suc s n z k)))

  -- nothing written yet, and everything
  pub filled_none : filled d s 0 ≡ d
  filled_none = refl

  pub filled_all : (n : ℕ) → length s ≡ n → filled d s n ≡ over s d
  unfolding over
  filled_all n e = rw (← e) (ap (λ (r : List A). r ++ drop (length s) d) (take_all (length s) s (omega arith)))

  -- a lent list keeps its length
  pub length_over : length s ≤ length d → length (over s d) ≡ length d
  unfolding over
  length_over h = simp (length-append, length-drop) (omega arith)
