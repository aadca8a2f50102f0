-- The shown layers of a list from a place on, and any walk over them, step by step. Assumes nothing.
use Rattle.std.specs.Prelude.{◌≡◌, ◌∷◌, ◌+◌, ◌-◌, ◌≤◌, ◌<◌}
use Rattle.laws.proofs.Prelude.{refl, ap, ap₂, sym, ◌∙◌, Bool, true, false, cond, List, [], ℕ, suc, add-one, arith, length}
use Rattle.laws.proofs.Prelude.{drop, take, get_or, drop_of_length-le, drop-cons, get_or-take, get_or-drop, length-take-le}
use Rattle.row_lines.specs.Shown.{flagged, shown_in}

-- one element of those between two places
pub get_or_between : {A : Type 0} (xs : List A) (from to i : ℕ) (d : A) → from + i < to → get_or (take (to - from) (drop from xs)) i d ≡ get_or xs (from + i) d
get_or_between xs from to i d h = let p : i < to - from = omega arith in rw (get_or-take, get_or-drop)

module _ (ids : List ℕ) (shown : List Bool) (n i : ℕ) (li : length ids ≡ n) (ls : n ≤ length shown) where
  rest_by : i < n → shown_in i (take n shown) ids ≡ cond (get_or shown i false) (get_or ids i 0 ∷ shown_in (suc i) (take n shown) ids) (shown_in (suc i) (take n shown) ids)
  unfolding flagged
  rest_by p =
      ap₂ flagged
      (drop-cons (take n shown) i false (omega (arith, length-take-le n shown ls)) ∙ ap (λ (s : Bool). s ∷ drop (suc i) (take n shown)) (get_or-take n shown i false p))
      (drop-cons ids i 0 (omega (arith, li)))

  pub rest_shown : i < n → get_or shown i false ≡ true → shown_in i (take n shown) ids ≡ get_or ids i 0 ∷ shown_in (i + 1) (take n shown) ids
  rest_shown p e = rest_by p ∙ rw (e, add-one i)

  pub rest_masked : i < n → get_or shown i false ≡ false → shown_in i (take n shown) ids ≡ shown_in (i + 1) (take n shown) ids
  rest_masked p e = rest_by p ∙ rw (e, add-one i)

  pub rest_none : n ≤ i → shown_in i (take n shown) ids ≡ []
  unfolding flagged
  rest_none p = ap₂ flagged (drop_of_length-le (take n shown) {i = i} (omega (arith, length-take-le n shown ls))) (drop_of_length-le ids {i = i} (omega (arith, li)))

  -- what is left of a walk gives what it gave before the layer in place i was met
  module _ {X : Type 0} (step : X → ℕ → X) (from : X → List ℕ → X) where
    pub walk_next_lem : ((x : X) (id : ℕ) (ids : List ℕ) → from x (id ∷ ids) ≡ from (step x id) ids) → {x r : X} → i < n → r ≡ cond (get_or shown i false) (step x (get_or ids i 0)) x → from r (shown_in (i + 1) (take n shown) ids) ≡ from x (shown_in i (take n shown) ids)
    walk_next_lem one {x} {r} p is = by (get_or shown i false) refl is
      where
        by : (b : Bool) → get_or shown i false ≡ b → r ≡ cond b (step x (get_or ids i 0)) x → from r (shown_in (i + 1) (take n shown) ids) ≡ from x (shown_in i (take n shown) ids)
        by true e is =
            ap (λ (y : X). from y (shown_in (i + 1) (take n shown) ids)) is
            ∙ sym (one x (get_or ids i 0) (shown_in (i + 1) (take n shown) ids))
            ∙ sym (ap (from x) (rest_shown p e))
        by false e is = ap (λ (y : X). from y (shown_in (i + 1) (take n shown) ids)) is ∙ sym (ap (from x) (rest_masked p e))

    pub walk_end : ((x : X) → from x [] ≡ x) → (x : X) → n ≤ i → from x (shown_in i (take n shown) ids) ≡ x
    walk_end none x p = ap (from x) (rest_none p) ∙ none x
