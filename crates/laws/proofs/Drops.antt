-- What is left of a list from a place on, taken apart: how a loop goes that knows what is left and not where it stands. Assumes nothing.
use mathlib.Core.Path.{◌≡◌, refl, sym, ap, ◌∙◌}
use mathlib.Core.Bool.{Bool, ◌&&◌, and_assoc, and-true}
use mathlib.Core.List.{List, [], ◌∷◌, map}
use Prim.Native.Nat.{ℕ, zero, suc, ◌+◌, ◌≤◌, ◌<◌}
use native.Mathlib.Nat.{add-zero}
use native.Mathlib.Omega.{arith}
use lib.ListN.{length, get_or, drop, length-drop}
use lib.Seq.{get_or-drop, drop-drop}
use Rattle.laws.specs.Lists.{all}

module _ {ℓ} {A : Type ℓ} (l : List A) (k : ℕ) where
  pub nil_le : drop k l ≡ [] → length l ≤ k
  nil_le e = omega (arith, length-drop k l, ap length e)

  module _ {x : A} {ys : List A} (e : drop k l ≡ x ∷ ys) where
    pub cons_lt : k < length l
    cons_lt = omega (arith, length-drop k l, ap length e)

    pub cons_at : (d : A) → get_or l k d ≡ x
    cons_at d = ap (λ (n : ℕ). get_or l n d) (sym (add-zero k)) ∙ sym (get_or-drop k l 0 d) ∙ ap (λ (r : List A). get_or r 0 d) e

    pub cons_rest : drop (k + 1) l ≡ ys
    cons_rest = sym (drop-drop 1 k l) ∙ ap (drop 1) e

    -- a test of every element, looked at one after the other
    pub all_again : (p : A → Bool) (ok whole : Bool) → (ok && all p (drop k l)) ≡ whole → (ok && p x && all p (drop (k + 1) l)) ≡ whole
    all_again p ok whole h =
        and_assoc ok (p x) (all p (drop (k + 1) l))
        ∙ ap (λ (r : List A). ok && (p x && all p r)) cons_rest
        ∙ ap (λ (r : List A). ok && all p r) (sym e)
        ∙ h

  pub all_end : (p : A → Bool) (ok whole : Bool) → drop k l ≡ [] → (ok && all p (drop k l)) ≡ whole → ok ≡ whole
  all_end p ok whole e h = sym (and-true ok) ∙ ap (λ (r : List A). ok && all p r) (sym e) ∙ h

-- what is left of a mapped list
pub map_drop {ℓ ℓ'} : {A : Type ℓ} {B : Type ℓ'} (f : A → B) (l : List A) (k : ℕ) → drop k (map f l) ≡ map f (drop k l)
map_drop f l zero = refl
map_drop f [] (suc k) = refl
map_drop f (x ∷ xs) (suc k) = map_drop f xs k

-- the element that comes next, in a mapped list
pub map_at {ℓ ℓ'} : {A : Type ℓ} {B : Type ℓ'} (f : A → B) (l : List A) (k : ℕ) {x : A} {ys : List A} → drop k l ≡ x ∷ ys → (d : B) → get_or (map f l) k d ≡ f x
map_at f l k e d = cons_at (map f l) k (map_drop f l k ∙ ap (map f) e) d
