-- Sums over the elements of a list that pass a test. Everything that is 'worked from the whole row' is such a sum.
use Rattle.std.specs.Prelude.{Bool, cond, List, [], ◌∷◌, ℕ, ◌+◌, ℤ, pos, ◌+ℤ◌}

module _ {A : Type 0} (add : A → A → A) (z : A) where
  -- f w for each w that passes p, summed
  abbrev pub sum_by : (ℕ → Bool) → (ℕ → A) → List ℕ → A
  sum_by p f [] = z
  sum_by p f (w ∷ ws) = add (cond (p w) (f w) z) (sum_by p f ws)

-- whole numbers summed, and natural numbers summed
abbrev pub sumℤ : (ℕ → Bool) → (ℕ → ℤ) → List ℕ → ℤ
sumℤ = sum_by ◌+ℤ◌ (pos 0)

abbrev pub sumℕ : (ℕ → Bool) → (ℕ → ℕ) → List ℕ → ℕ
sumℕ = sum_by ◌+◌ 0

-- how many elements pass p
abbrev pub count_by : (ℕ → Bool) → List ℕ → ℕ
count_by p = sumℕ p (λ w. 1)
