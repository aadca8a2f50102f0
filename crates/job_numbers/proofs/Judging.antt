-- Loops over lines, each of which is tested.
-- Assumes nothing.
use Rattle.std.specs.Prelude.{◌≡◌, ◌<◌}
use Rattle.laws.proofs.Prelude.{ap, ◌∙◌, Bool, ℕ, arith, tabulate, every, all, same, every_intro}
use Rattle.laws.proofs.Prelude.{every_at, all_intro, all_at, length_tabulate, get_d_tabulate}

module _ {A : Type 0} (p : A → Bool) (f : ℕ → A) where
  -- a test of each index is one of each element
  every_all : (n : ℕ) → every n (λ k. p (f k)) ≡ all p (tabulate n f)
  every_all n =
      same (every n (λ k. p (f k))) (all p (tabulate n f))
      (λ e. all_intro p (tabulate n f) (f 0) (λ i h. let q : i < n = omega (arith, length_tabulate n f) in rw (get_d_tabulate n f (f 0) i q) (every_at n (λ k. p (f k)) e i q)))
      (λ e. every_intro n (λ k. p (f k)) (λ i h. rw (get_d_tabulate n f (f 0) i h) at (all_at p (tabulate n f) e i (f 0) (omega (arith, length_tabulate n f)))))

  -- each of the first i elements was tested, and there are no more
  pub judged : {n i : ℕ} {ok : Bool} → ok ≡ every i (λ k. p (f k)) → i ≡ n → ok ≡ all p (tabulate n f)
  judged {n} so_far e = so_far ∙ ap (λ (k : ℕ). every k (λ q. p (f q))) e ∙ every_all n
