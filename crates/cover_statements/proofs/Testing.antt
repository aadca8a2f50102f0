-- A loop that tests every element of a list, with no early exit: at element i, whether those before it pass. Assumes nothing.
use Rattle.std.specs.Prelude.{◌≡◌, ◌&&◌, ◌+◌, ◌≤◌, ◌<◌}
use Rattle.laws.proofs.Prelude.{refl, sym, ap, ◌∙◌, Bool, true, false, and_assoc, List, ℕ, suc, add-one, arith, length}
use Rattle.laws.proofs.Prelude.{get_or, drop, drop_of_length-le, drop-cons, same, every_intro, every_at, all_at, all_intro, all, every}

pub record Testing {A : Type 0} (p : A → Bool) (l : List A) (n : ℕ) (ok : Bool) (i : ℕ) : Type 0 where
  pub long : length l ≡ n
  pub reached : i ≤ n
  pub same : (ok && all p (drop i l)) ≡ all p l

pub and-true : (a : Bool) → (a && true) ≡ a
and-true true = refl
and-true false = refl

module _ {A : Type 0} {p : A → Bool} {l : List A} {n : ℕ} where
  pub test_start : length l ≡ n → Testing p l n true 0
  test_start e = record { long = e; reached = omega arith; same = refl }

  pub test_next : {ok : Bool} {i : ℕ} (d : A) {t : Bool} → Testing p l n ok i → i < n → t ≡ p (get_or l i d) → Testing p l n (ok && t) (i + 1)
  test_next {ok} {i} d {t} c h e =
      record {
        long = c.long;
        reached = omega arith;
        same =
            rw (add-one i, e)
            (and_assoc ok (p (get_or l i d)) (all p (drop (suc i) l))
            ∙ ap (λ (r : List A). ok && all p r) (sym (drop-cons l i d (omega (arith, c.long))))
            ∙ c.same);
      }

  pub test_end : {ok : Bool} {i : ℕ} → Testing p l n ok i → n ≤ i → ok ≡ all p l
  test_end {ok} {i} c h =
      sym (and-true ok) ∙ ap (λ (r : List A). ok && all p r) (sym (drop_of_length-le l {i = i} (omega (arith, c.long)))) ∙ c.same

-- a test of every element is a test of every index, where each test agrees
pub all_every : {A : Type 0} (p : A → Bool) (l : List A) (d : A) (n : ℕ) → length l ≡ n → (q : ℕ → Bool) → ((i : ℕ) → i < n → p (get_or l i d) ≡ q i) → all p l ≡ every n q
all_every p l d n e q h =
    same (all p l) (every n q)
    (λ t. every_intro n q (λ i k. sym (h i k) ∙ all_at p l t i d (omega arith)))
    (λ t. all_intro p l d (λ i k. let m : i < n = omega arith in h i m ∙ every_at n q t i m))
