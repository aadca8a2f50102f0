-- Laws of lists that ascend strictly. Assumes nothing.
use Rattle.std.specs.Prelude.{◌≡◌, ◌∷◌, ◌≤◌, ◌<◌}
use Rattle.laws.proofs.Prelude.{refl, true, List, [], ℕ, zero, suc, not-suc-le-zero, le_of_suc-le-suc, arith, leb-true, le-leb}
use Rattle.laws.proofs.Prelude.{leb, length, get_or, both, left, right}
use Rattle.styling.specs.Ascending.{strictly_ascends_from}

module _ (low x : ℕ) (xs : List ℕ) (h : strictly_ascends_from low (x ∷ xs) ≡ true) where
  pub ascends_head : low ≤ x
  unfolding strictly_ascends_from
  ascends_head = leb-true low x (left (leb low x) (strictly_ascends_from (suc x) xs) h)

  pub ascends_tail : strictly_ascends_from (suc x) xs ≡ true
  unfolding strictly_ascends_from
  ascends_tail = right (leb low x) (strictly_ascends_from (suc x) xs) h

-- nothing is below the bound
pub ascends_low : (low : ℕ) (xs : List ℕ) → strictly_ascends_from low xs ≡ true → (i : ℕ) → i < length xs → low ≤ get_or xs i 0
ascends_low low [] h i p = absurd (not-suc-le-zero p)
ascends_low low (x ∷ xs) h zero p = ascends_head low x xs h
ascends_low low (x ∷ xs) h (suc i) p =
    omega (arith, ascends_head low x xs h, ascends_low (suc x) xs (ascends_tail low x xs h) i (le_of_suc-le-suc p))

-- a later element is greater
pub ascends_lt : (low : ℕ) (xs : List ℕ) → strictly_ascends_from low xs ≡ true → (i j : ℕ) → i < j → j < length xs → get_or xs i 0 < get_or xs j 0
ascends_lt low [] h i j p q = absurd (not-suc-le-zero q)
ascends_lt low (x ∷ xs) h i zero p q = absurd (not-suc-le-zero p)
ascends_lt low (x ∷ xs) h zero (suc j) p q = ascends_low (suc x) xs (ascends_tail low x xs h) j (le_of_suc-le-suc q)
ascends_lt low (x ∷ xs) h (suc i) (suc j) p q =
    ascends_lt (suc x) xs (ascends_tail low x xs h) i j (le_of_suc-le-suc p) (le_of_suc-le-suc q)

-- a lower bound does as well
pub ascends_weaken : (low low' : ℕ) (xs : List ℕ) → low' ≤ low → strictly_ascends_from low xs ≡ true → strictly_ascends_from low' xs ≡ true
unfolding strictly_ascends_from
ascends_weaken low low' [] p h = refl
ascends_weaken low low' (x ∷ xs) p h =
    both (leb low' x) (strictly_ascends_from (suc x) xs) (le-leb low' x (omega (arith, ascends_head low x xs h))) (ascends_tail low x xs h)
