-- Laws of tests: a conjunction by its sides, and a test that is either way. Assumes nothing.
use mathlib.Core.Path.{◌≡◌, refl, sym, ◌∙◌}
use mathlib.Core.Bool.{Bool, true, false, cond, ◌&&◌, false≢true}
use mathlib.Core.Logic.{◌⊎◌, inl, inr}

pub both : (a b : Bool) → a ≡ true → b ≡ true → (a && b) ≡ true
both true b p q = q
both false b p q = p

pub left : (a b : Bool) → (a && b) ≡ true → a ≡ true
left true b p = refl
left false b p = p

pub right : (a b : Bool) → (a && b) ≡ true → b ≡ true
right true b p = p
right false b p = absurd (false≢true p)

pub not_left : (a b : Bool) → a ≡ false → (a && b) ≡ false
not_left true b p = absurd (false≢true (sym p))
not_left false b p = refl

pub not_right : (a b : Bool) → b ≡ false → (a && b) ≡ false
not_right true b p = p
not_right false b p = refl

-- a test that is not true is false
pub not-true : (a : Bool) → (a ≡ true → ⊥) → a ≡ false
not-true true h = absurd (h refl)
not-true false h = refl

pub not-false : (a : Bool) → (a ≡ false → ⊥) → a ≡ true
not-false true h = refl
not-false false h = absurd (h refl)

-- true and false at once
pub clash : {a : Bool} → a ≡ true → a ≡ false → ⊥
clash p q = false≢true (sym q ∙ p)

-- a test is true or false
pub either : (a : Bool) → (a ≡ true) ⊎ (a ≡ false)
either true = inl refl
either false = inr refl

-- the same either way
pub either_way {ℓ} : {A : Type ℓ} (t : Bool) (x : A) → cond t x x ≡ x
either_way true x = refl
either_way false x = refl

-- two tests that hold in the same cases are equal
pub same : (a b : Bool) → (a ≡ true → b ≡ true) → (b ≡ true → a ≡ true) → a ≡ b
same true b f g = sym (f refl)
same false true f g = g refl
same false false f g = refl
