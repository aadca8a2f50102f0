-- Whole numbers as text, as a printer writes them. Stands for 'whole numbers without leading zeros, a minus only before a number that is
-- not 0': what no number prints to is no number's text.
use Rattle.std.specs.Prelude.{◌≡◌, ◌&&◌, ◌∷◌, ◌++◌, ◌+◌, ◌/◌, ◌%◌, ◌<◌}
use Rattle.laws.specs.Prelude.{Bool, false, cond, List, [], ℕ, zero, suc, ltb, leb, ℤ, pos, negsuc, nat_abs}

-- the digits of n, of which there are at most k
unfoldable pub decimal_in : ℕ → ℕ → List ℕ
decimal_in zero n = []
decimal_in (suc k) n =
    let longer = decimal_in k (n / 10) ++ ((48 + n % 10) ∷ []) in
    cond (ltb n 10) ((48 + n) ∷ []) longer

-- n has no more than n + 1 digits
unfoldable pub decimal : ℕ → List ℕ
decimal n = decimal_in (suc n) n

-- with a minus before a number below 0
abbrev pub decimalℤ : ℤ → List ℕ
decimalℤ (pos n) = decimal n
decimalℤ (negsuc n) = 45 ∷ decimal (suc n)

abbrev pub is_digit : ℕ → Bool
is_digit b = leb 48 b && leb b 57

-- no digit comes next
abbrev pub Stops : List ℕ → Type 0
Stops [] = Unit
Stops (b ∷ t) = is_digit b ≡ false

-- at most seven digits
abbrev pub Short : ℤ → Type 0
Short v = nat_abs v < 10000000
