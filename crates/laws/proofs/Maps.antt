-- A mapped list: what a test or a key that the map keeps says of it. Assumes nothing.
use mathlib.Core.Path.{◌≡◌, refl, ap, ap₂, ◌∙◌}
use mathlib.Core.Bool.{Bool, true, false, cond, ◌&&◌, ◌||◌}
use mathlib.Core.List.{List, [], ◌∷◌, map}
use Prim.Native.Nat.{ℕ, zero, suc}
use lib.ListN.{get_or, take, drop, set}
use Rattle.laws.specs.Lists.{all, any, filter, tabulate}
use Rattle.laws.proofs.Bools.{both, left, right}

module _ {A B : Type 0} (g : A → B) where
  pub map_take : (n : ℕ) (l : List A) → take n (map g l) ≡ map g (take n l)
  map_take zero l = refl
  map_take (suc n) [] = refl
  map_take (suc n) (x ∷ xs) = ap (λ (r : List B). g x ∷ r) (map_take n xs)

  pub map_set : (l : List A) (i : ℕ) (a : A) → set (map g l) i (g a) ≡ map g (set l i a)
  map_set [] i a = refl
  map_set (x ∷ xs) zero a = refl
  map_set (x ∷ xs) (suc i) a = ap (λ (r : List B). g x ∷ r) (map_set xs i a)

  pub map_tabulate : (n : ℕ) (f : ℕ → A) → map g (tabulate n f) ≡ tabulate n (λ i. g (f i))
  map_tabulate zero f = refl
  map_tabulate (suc n) f = ap (λ (r : List B). g (f 0) ∷ r) (map_tabulate n (λ i. f (suc i)))

  pub map_cond : (t : Bool) (l m : List A) → cond t (map g l) (map g m) ≡ map g (cond t l m)
  map_cond true l m = refl
  map_cond false l m = refl

  -- tests that the map keeps
  module _ (p : B → Bool) (q : A → Bool) (keeps : (x : A) → p (g x) ≡ q x) where
    pub filter_map : (l : List A) → filter p (map g l) ≡ map g (filter q l)
    filter_map [] = refl
    filter_map (x ∷ xs) = ap₂ (λ (t : Bool) (r : List B). cond t (g x ∷ r) r) (keeps x) (filter_map xs) ∙ map_cond (q x) (x ∷ filter q xs) (filter q xs)

    pub all_map : (l : List A) → all p (map g l) ≡ all q l
    all_map [] = refl
    all_map (x ∷ xs) = ap₂ ◌&&◌ (keeps x) (all_map xs)

    pub any_map : (l : List A) → any p (map g l) ≡ any q l
    any_map [] = refl
    any_map (x ∷ xs) = ap₂ ◌||◌ (keeps x) (any_map xs)

-- a key that a map keeps, at any place
pub key_at_lem : {A B : Type 0} (g : A → A) (key : A → B) → ((x : A) → key (g x) ≡ key x) → (l : List A) (i : ℕ) (d : A) → key (get_or (map g l) i d) ≡ key (get_or l i d)
key_at_lem g key keeps [] i d = refl
key_at_lem g key keeps (x ∷ xs) zero d = keeps x
key_at_lem g key keeps (x ∷ xs) (suc i) d = key_at_lem g key keeps xs i d

-- ---- parts of a list that passes a test

module _ {A : Type 0} (p : A → Bool) where
  pub all_take : (n : ℕ) (l : List A) → all p l ≡ true → all p (take n l) ≡ true
  all_take zero l h = refl
  all_take (suc n) [] h = refl
  all_take (suc n) (x ∷ xs) h = both (p x) (all p (take n xs)) (left (p x) (all p xs) h) (all_take n xs (right (p x) (all p xs) h))

  pub all_drop : (n : ℕ) (l : List A) → all p l ≡ true → all p (drop n l) ≡ true
  all_drop zero l h = h
  all_drop (suc n) [] h = refl
  all_drop (suc n) (x ∷ xs) h = all_drop n xs (right (p x) (all p xs) h)

-- two maps that agree on what passes
pub map_passed : {A B : Type 0} (p : A → Bool) (f g : A → B) → ((x : A) → p x ≡ true → f x ≡ g x) → (l : List A) → all p l ≡ true → map f l ≡ map g l
map_passed p f g e [] h = refl
map_passed {A} {B} p f g e (x ∷ xs) h = ap₂ (λ (y : B) (r : List B). y ∷ r) (e x (left (p x) (all p xs) h)) (map_passed p f g e xs (right (p x) (all p xs) h))
