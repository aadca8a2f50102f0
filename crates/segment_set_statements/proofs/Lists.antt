-- Laws of lists given by their elements, and of a list written over another, place by place. Assumes nothing.
use Rattle.std.specs.Prelude.{◌≡◌, ◌∷◌, ◌+◌, ◌-◌, ◌≤◌, ◌<◌}
use Rattle.laws.proofs.Prelude.{refl, sym, ap, ap₂, ◌∙◌, List, ℕ, zero, suc, arith, length, get_or, drop}
use Rattle.laws.proofs.Prelude.{List·getD-append, get_or-drop, get_or-append-add, tabulate, over}

pub tabulate_ext {ℓ} : {A : Type ℓ} (n : ℕ) (f g : ℕ → A) → ((i : ℕ) → i < n → f i ≡ g i) → tabulate n f ≡ tabulate n g
tabulate_ext zero f g h = refl
tabulate_ext {A = A} (suc n) f g h =
    ap₂ (λ (x : A) (xs : List A). x ∷ xs) (h 0 (omega arith)) (tabulate_ext n (λ i. f (suc i)) (λ i. g (suc i)) (λ i l. h (suc i) (omega arith)))

module _ {ℓ} {A : Type ℓ} (ws old : List A) (d : A) where
  pub over_front : (k : ℕ) → k < length ws → get_or (over ws old) k d ≡ get_or ws k d
  unfolding over
  over_front k h = List·getD-append ws (drop (length ws) old) d k h

  pub over_back : (k : ℕ) → length ws ≤ k → get_or (over ws old) k d ≡ get_or old k d
  unfolding over
  over_back k h =
      let e : length ws + (k - length ws) ≡ k = omega arith in
      ap (λ (n : ℕ). get_or (over ws old) n d) (sym e)
      ∙ get_or-append-add ws (drop (length ws) old) (k - length ws) d
      ∙ get_or-drop (length ws) old (k - length ws) d
      ∙ ap (λ (n : ℕ). get_or old n d) e
