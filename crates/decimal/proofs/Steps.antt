-- What one byte does to the reading of a number.
-- Assumes nothing.
use Rattle.std.specs.Prelude.{◌≡◌, ◌∷◌, ◌-◌, ◌<◌, ◌≤◌}
use Rattle.laws.proofs.Prelude.{sym, ◌∙◌, Bool, true, false, ⊎_elim, List, ℕ, arith, lt-ltb, le-ltb, le-leb, leb-true}
use Rattle.laws.proofs.Prelude.{leb, left, right, either}
use Rattle.decimal.specs.Decimal.{is_digit}
use Rattle.decimal.specs.Parse.{parsed, failed, append_digit, more_digits, parseℕ}

-- the two cases of a test, each with its equation
pub cases : (b : Bool) {P : Type 0} → (b ≡ true → P) → (b ≡ false → P) → P
cases b f g = ⊎_elim f g (either b)

pub digit : (b : ℕ) → 48 ≤ b → b ≤ 57 → is_digit b ≡ true
digit b h l = rw (le-leb 48 b h, le-leb b 57 l)

pub digit_range : (b : ℕ) → is_digit b ≡ true → (48 ≤ b) × (b ≤ 57)
digit_range b h = (leb-true 48 b (left (leb 48 b) (leb b 57) h), leb-true b 57 (right (leb 48 b) (leb b 57) h))

-- what the answer of a test says of what the test stands for
pub is_false : {r t : Bool} → r ≡ t → r ≡ false → t ≡ false
is_false e h = sym e ∙ h

pub is_true : {r t : Bool} → r ≡ t → r ≡ true → t ≡ true
is_true e h = sym e ∙ h

module _ (limit n b : ℕ) (t : List ℕ) where
  pub more_digit : is_digit b ≡ true → 0 < n → append_digit n b < limit → more_digits limit n (b ∷ t) ≡ more_digits limit (append_digit n b) t
  unfolding more_digits
  more_digit d h l = rw (d, lt-ltb 0 n h, lt-ltb (append_digit n b) limit l)

  pub more_stop : is_digit b ≡ false → more_digits limit n (b ∷ t) ≡ parsed n (b ∷ t)
  unfolding more_digits
  more_stop d = rw d

  pub more_zero : is_digit b ≡ true → n ≡ 0 → more_digits limit n (b ∷ t) ≡ failed
  unfolding more_digits
  more_zero d h = rw (d, le-ltb 0 n (omega arith))

  pub more_large : is_digit b ≡ true → 0 < n → limit ≤ append_digit n b → more_digits limit n (b ∷ t) ≡ failed
  unfolding more_digits
  more_large d h l = rw (d, lt-ltb 0 n h, le-ltb (append_digit n b) limit l)

module _ (limit b : ℕ) (t : List ℕ) where
  pub parseℕ_digit : is_digit b ≡ true → parseℕ limit (b ∷ t) ≡ more_digits limit (b - 48) t
  unfolding parseℕ
  parseℕ_digit d = rw d

  pub parseℕ_stop : is_digit b ≡ false → parseℕ limit (b ∷ t) ≡ failed
  unfolding parseℕ
  parseℕ_stop d = rw d
