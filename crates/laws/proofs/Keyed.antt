-- A table of sums, one for each value of a key, made by one pass over a list of words. Assumes nothing.
use mathlib.Core.Path.{◌≡◌, refl, sym, ap, ◌∙◌}
use mathlib.Core.Bool.{cond}
use mathlib.Core.List.{List, [], ◌∷◌}
use Prim.Native.Nat.{ℕ, ◌<◌}
use native.Mathlib.Decide.{ℕ_discrete}
use borrow.Author.Tests.{eq-eqb, ne_eqb}
use lib.Dec.{eqb}
use lib.ListN.{length, get_or, set, length-set}
use lib.Seq.{get_or-set_same, get_or-set_other}
use Rattle.laws.specs.Sum.{sum_by}

module _ {A : Type 0} (add : A → A → A) (z : A) where
  -- a table with f w added at the key of w
  abbrev pub add_one : (ℕ → ℕ) → (ℕ → A) → List A → ℕ → List A
  add_one key f table w = set table (key w) (add (get_or table (key w) z) (f w))

  abbrev pub add_all : (ℕ → ℕ) → (ℕ → A) → List A → List ℕ → List A
  add_all key f table [] = table
  add_all key f table (w ∷ ws) = add_all key f (add_one key f table w) ws

  pub length_all : (key : ℕ → ℕ) (f : ℕ → A) (table : List A) (ws : List ℕ) → length (add_all key f table ws) ≡ length table
  length_all key f table [] = refl
  length_all key f table (w ∷ ws) = length_all key f (add_one key f table w) ws ∙ length-set table (key w) _

-- the table, entry by entry
module _ {A : Type 0} (add : A → A → A) (z : A) (zero_right : (a : A) → add a z ≡ a) (assoc : (a b c : A) → add (add a b) c ≡ add a (add b c)) (key : ℕ → ℕ) (f : ℕ → A) where
  pub entry_one : (table : List A) (w k : ℕ) → key w < length table → get_or (add_one add z key f table w) k z ≡ add (get_or table k z) (cond (eqb (key w) k) (f w) z)
  entry_one table w k h = by (ℕ_discrete (key w) k)
    where
      by : Dec (key w ≡ k) → get_or (add_one add z key f table w) k z ≡ add (get_or table k z) (cond (eqb (key w) k) (f w) z)
      by (yes q) = rw (← q, eq-eqb (key w) (key w) refl) (get_or-set_same table (key w) _ z h)
      by (no q) = rw (ne_eqb (key w) k q) (get_or-set_other table (key w) k _ z (λ s. q (sym s)) ∙ sym (zero_right _))

  pub entry_all : (table : List A) (ws : List ℕ) (k : ℕ) → ((w : ℕ) → key w < length table) → get_or (add_all add z key f table ws) k z ≡ add (get_or table k z) (sum_by add z (λ w. eqb (key w) k) f ws)
  entry_all table [] k h = sym (zero_right (get_or table k z))
  entry_all table (w ∷ ws) k h =
      entry_all (add_one add z key f table w) ws k (λ v. rw (length-set table (key w) (add (get_or table (key w) z) (f w))) (h v))
      ∙ ap (λ (a : A). add a (sum_by add z (λ v. eqb (key v) k) f ws)) (entry_one table w k (h w))
      ∙ assoc (get_or table k z) (cond (eqb (key w) k) (f w) z) (sum_by add z (λ v. eqb (key v) k) f ws)
