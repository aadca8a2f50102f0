-- What holds while a lent list is filled from the front, an entry a turn, with f 0, f 1, ..: laws of use for any such loop.
-- Assumes nothing.
use Rattle.std.specs.Prelude.{◌≡◌, ◌+◌, ◌<◌, ◌≤◌}
use Rattle.laws.proofs.Prelude.{sym, ap, ◌∙◌, List, ℕ, arith, length, get_or, set, tabulate, over, length_tabulate}
use Rattle.laws.proofs.Prelude.{get_d_tabulate, filled, filled_more, filled_all}

module _ {A : Type 0} (n : ℕ) (f : ℕ → A) where
  pub record Filling (old : List A) (k : ℕ) (new : List A) : Type 0 where
    pub within : k ≤ n
    pub room : n ≤ length old
    pub so_far : new ≡ filled old (tabulate n f) k

  module _ {old : List A} {k : ℕ} {new : List A} (v : Filling old k new) where
    pub next : {a : A} → k < n → a ≡ f k → Filling old (k + 1) (set new k a)
    next {a} h e =
        let entry : a ≡ get_or (tabulate n f) k a = e ∙ sym (get_d_tabulate n f a k h) in
        record {
          within = omega arith;
          room = v.room;
          so_far =
              ap (λ (l : List A). set l k a) v.so_far
              ∙ ap (set (filled old (tabulate n f) k) k) entry
              ∙ filled_more old (tabulate n f) k a (omega (arith, v.room)) (omega (arith, length_tabulate n f));
        }

    pub end : n ≤ k → new ≡ over (tabulate n f) old
    end h = v.so_far ∙ filled_all old (tabulate n f) k (length_tabulate n f ∙ omega (arith, v.within))
