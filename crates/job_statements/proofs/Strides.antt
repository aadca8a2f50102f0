-- Lists given by their elements: joined, compared, and cut into parts of one width.
-- Assumes nothing.
use Rattle.std.specs.Prelude.{◌≡◌, ◌∷◌, ◌++◌, ◌+◌, ◌*◌, ◌<◌}
use Rattle.laws.proofs.Prelude.{refl, sym, ap, ap₂, ◌∙◌, List, [], map, flatten, ℕ, zero, suc, add-zero, arith}
use Rattle.laws.proofs.Prelude.{tabulate}

module _ {A : Type 0} where
  pub tabulate_ext : (n : ℕ) (f g : ℕ → A) → ((i : ℕ) → i < n → f i ≡ g i) → tabulate n f ≡ tabulate n g
  tabulate_ext zero f g h = refl
  tabulate_ext (suc n) f g h = ap₂ ◌∷◌ (h 0 (omega arith)) (tabulate_ext n (λ i. f (suc i)) (λ i. g (suc i)) (λ i l. h (suc i) (omega arith)))

  -- a count that is another
  count : {n m : ℕ} (f : ℕ → A) → n ≡ m → tabulate n f ≡ tabulate m f
  count f e = ap (λ (k : ℕ). tabulate k f) e

  pub tabulate_append : (a b : ℕ) (f : ℕ → A) → tabulate (a + b) f ≡ tabulate a f ++ tabulate b (λ i. f (a + i))
  tabulate_append zero b f =
      let e : zero + b ≡ b = omega arith in
      let at : (i : ℕ) → i ≡ zero + i = λ i. omega arith in
      count f e ∙ tabulate_ext b f (λ i. f (zero + i)) (λ i l. ap f (at i))
  tabulate_append (suc a) b f =
      let e : suc a + b ≡ suc (a + b) = omega arith in
      let at : (i : ℕ) → suc (a + i) ≡ suc a + i = λ i. omega arith in
      count f e
      ∙ ap (λ (l : List A). f 0 ∷ l)
      (tabulate_append a b (λ i. f (suc i))
      ∙ ap (λ (l : List A). tabulate a (λ i. f (suc i)) ++ l) (tabulate_ext b (λ i. f (suc (a + i))) (λ i. f (suc a + i)) (λ i l. ap f (at i))))

  -- one more element
  pub tabulate_snoc : (n : ℕ) (f : ℕ → A) → tabulate (n + 1) f ≡ tabulate n f ++ (f n ∷ [])
  tabulate_snoc n f = tabulate_append n 1 f ∙ ap (λ (k : ℕ). tabulate n f ++ (f k ∷ [])) (add-zero n)

  -- n parts, part i being the w elements from place w × i on
  pub strides : (w n : ℕ) (f : ℕ → A) (g : ℕ → List A) → ((i : ℕ) → i < n → g i ≡ tabulate w (λ j. f (w * i + j))) → flatten (tabulate n g) ≡ tabulate (w * n) f
  unfolding flatten
  strides w zero f g h = let e : 0 ≡ w * zero = omega arith in count f e
  strides w (suc n) f g h =
      let first : (j : ℕ) → w * 0 + j ≡ j = λ j. omega arith in
      let later : (i j : ℕ) → w * suc i + j ≡ w + (w * i + j) = λ i j. omega arith in
      let all : w + w * n ≡ w * suc n = omega arith in
      ap₂ ◌++◌
      (h 0 (omega arith) ∙ tabulate_ext w (λ j. f (w * 0 + j)) f (λ j l. ap f (first j)))
      (strides w n (λ k. f (w + k)) (λ i. g (suc i))
      (λ i l. h (suc i) (omega arith) ∙ tabulate_ext w (λ j. f (w * suc i + j)) (λ j. f (w + (w * i + j))) (λ j k. ap f (later i j))))
      ∙ sym (tabulate_append w (w * n) f)
      ∙ count f all

pub map_tabulate : {A B : Type 0} (h : A → B) (n : ℕ) (f : ℕ → A) → map h (tabulate n f) ≡ tabulate n (λ i. h (f i))
map_tabulate h zero f = refl
map_tabulate {B = B} h (suc n) f = ap (λ (l : List B). h (f 0) ∷ l) (map_tabulate h n (λ i. f (suc i)))
