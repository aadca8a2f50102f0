-- A test of every index below a number, and of every element of a list. Assumes nothing.
use mathlib.Core.Path.{◌≡◌, refl, sym, ap, ◌∙◌}
use mathlib.Core.Bool.{Bool, true, false, ◌&&◌, and_assoc}
use mathlib.Core.Logic.{⊎_elim}
use mathlib.Core.List.{List, [], ◌∷◌, ◌++◌}
use Prim.Native.Nat.{ℕ, zero, suc, ◌<◌}
use native.Mathlib.Nat.{le_of_suc-le-suc, not-suc-le-zero, eq-or-lt_of_le}
use native.Mathlib.Omega.{arith}
use lib.ListN.{length, get_or}
use Rattle.laws.specs.Lists.{every, all}
use Rattle.laws.proofs.Bools.{both, left, right, not_left, not_right}

pub every_intro : (n : ℕ) (f : ℕ → Bool) → ((i : ℕ) → i < n → f i ≡ true) → every n f ≡ true
every_intro zero f h = refl
every_intro (suc n) f h = both (f n) (every n f) (h n (omega arith)) (every_intro n f (λ i p. h i (omega arith)))

pub every_at : (n : ℕ) (f : ℕ → Bool) → every n f ≡ true → (i : ℕ) → i < n → f i ≡ true
every_at zero f e i p = absurd (not-suc-le-zero p)
every_at (suc n) f e i p =
    ⊎_elim (λ q. ap f q ∙ left (f n) (every n f) e) (λ q. every_at n f (right (f n) (every n f) e) i q)
    (eq-or-lt_of_le {n = i} {m = n} (omega arith))

pub every_fails : (n : ℕ) (f : ℕ → Bool) (i : ℕ) → i < n → f i ≡ false → every n f ≡ false
every_fails zero f i p e = absurd (not-suc-le-zero p)
every_fails (suc n) f i p e =
    ⊎_elim (λ q. not_left (f n) (every n f) (ap f (sym q) ∙ e)) (λ q. not_right (f n) (every n f) (every_fails n f i q e))
    (eq-or-lt_of_le {n = i} {m = n} (omega arith))

-- ---- a test of every element

pub all_at {ℓ} : {A : Type ℓ} (p : A → Bool) (xs : List A) → all p xs ≡ true → (i : ℕ) (d : A) → i < length xs → p (get_or xs i d) ≡ true
all_at p [] e i d h = absurd (not-suc-le-zero h)
all_at p (x ∷ xs) e zero d h = left (p x) (all p xs) e
all_at p (x ∷ xs) e (suc i) d h = all_at p xs (right (p x) (all p xs) e) i d (le_of_suc-le-suc h)

pub all_intro {ℓ} : {A : Type ℓ} (p : A → Bool) (xs : List A) (d : A) → ((i : ℕ) → i < length xs → p (get_or xs i d) ≡ true) → all p xs ≡ true
all_intro p [] d h = refl
all_intro p (x ∷ xs) d h =
    both (p x) (all p xs) (h 0 (omega arith)) (all_intro p xs d (λ i q. h (suc i) (omega arith)))

pub all_append {ℓ} : {A : Type ℓ} (p : A → Bool) (xs ys : List A) → all p (xs ++ ys) ≡ (all p xs && all p ys)
all_append p [] ys = refl
all_append p (x ∷ xs) ys = ap (λ (t : Bool). p x && t) (all_append p xs ys) ∙ sym (and_assoc (p x) (all p xs) (all p ys))
