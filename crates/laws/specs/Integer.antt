-- Whole numbers (ℤ) by their two natural parts, their remainders, and ranges of them.
use Rattle.std.specs.Prelude.{Bool, ◌&&◌, ℕ, suc, ◌+◌, ◌-◌, ◌%◌, ◌≤◌, ℤ, pos, negsuc}
use Rattle.std.specs.Int.Signed.{le_z}

-- max(z, 0)
abbrev pub plus : ℤ → ℕ
plus (pos n) = n
plus (negsuc n) = 0

-- max(-z, 0)
abbrev pub minus : ℤ → ℕ
minus (pos n) = 0
minus (negsuc n) = suc n

-- the remainder of z by m, 0 to m - 1: n mod m for n, and m - 1 - (n mod m) for -(n + 1)
abbrev pub modℤ : ℕ → ℤ → ℕ
modℤ m (pos n) = n % m
modℤ m (negsuc n) = m - suc (n % m)

-- low ≤ v ≤ high
unfoldable pub is_within : ℤ → ℤ → ℤ → Bool
is_within low high v = le_z low v && le_z v high

-- a ≤ b
abbrev pub AtMost : ℤ → ℤ → Type 0
AtMost a b = plus a + minus b ≤ plus b + minus a
