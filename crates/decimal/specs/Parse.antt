-- Reading a whole number from the front of a text, byte by byte. proofs/Laws says what this is: the inverse of `decimal` and `decimalℤ`.
use Rattle.std.specs.Prelude.{◌&&◌, ◌∷◌, ◌+◌, ◌-◌, ◌*◌}
use Rattle.laws.specs.Prelude.{Bool, false, cond, List, [], ℕ, zero, suc, ltb, eqb, ℤ, pos, negsuc, drop}
use Rattle.decimal.specs.Decimal.{is_digit}

-- what was read and the text after it, or nothing
pub data Parsed (A : Type 0) : Type 0 where
  parsed : A → List ℕ → Parsed A
  failed : Parsed A

-- n with one more digit
abbrev pub append_digit : ℕ → ℕ → ℕ
append_digit n b = n * 10 + (b - 48)

-- the digits of n were read: what comes after them, for numbers below `limit`. No digit follows a 0
unfoldable pub more_digits : ℕ → ℕ → List ℕ → Parsed ℕ
more_digits limit n [] = parsed n []
more_digits limit n (b ∷ t) =
    let on = more_digits limit (append_digit n b) t in
    let longer = cond (ltb 0 n && ltb (append_digit n b) limit) on failed in
    cond (is_digit b) longer (parsed n (b ∷ t))

unfoldable pub parseℕ : ℕ → List ℕ → Parsed ℕ
parseℕ limit [] = failed
parseℕ limit (b ∷ t) = cond (is_digit b) (more_digits limit (b - 48) t) failed

abbrev pub positive : Parsed ℕ → Parsed ℤ
positive (parsed n t) = parsed (pos n) t
positive failed = failed

-- no minus stands before 0
abbrev pub negative : Parsed ℕ → Parsed ℤ
negative (parsed zero t) = failed
negative (parsed (suc n) t) = parsed (negsuc n) t
negative failed = failed

abbrev pub starts_with : ℕ → List ℕ → Bool
starts_with b [] = false
starts_with b (a ∷ t) = eqb a b

unfoldable pub parseℤ : ℕ → List ℕ → Parsed ℤ
parseℤ limit s = cond (starts_with 45 s) (negative (parseℕ limit (drop 1 s))) (positive (parseℕ limit s))
