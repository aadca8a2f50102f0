-- Each answer of `end_at` and of `starts_number`, from the tests that lead to it.
-- Assumes nothing.
use Rattle.std.specs.Prelude.{◌≡◌, ◌||◌, ◌<◌, ◌≤◌}
use Rattle.laws.proofs.Prelude.{refl, Bool, false, List, ℕ, zero, suc, eqb, length, drop, get_or, drop_of_length-le, drop-cons}
use Rattle.decimal.specs.Decimal.{is_digit}
use Rattle.lines.specs.Parse.{end_at, starts_number}

pub space : (n : ℕ) → (n ≡ 0 → ⊥) → 32 ≡ end_at n
space zero h = absurd (h refl)
space (suc n) h = refl

module _ (s : List ℕ) (at : ℕ) where
  pub past : length s ≤ at → false ≡ starts_number (drop at s)
  past h = rw (drop_of_length-le s h)

  pub first : {r : Bool} → at < length s → r ≡ is_digit (get_or s at 0) → (r || eqb (get_or s at 0) 45) ≡ starts_number (drop at s)
  first h e = rw (drop-cons s at 0 h, e)
