-- What the readers of numbers promise.
use Rattle.std.specs.Prelude.{◌≡◌, ◌++◌, ◌<◌, ◌≤◌, Option, Some, None}
use Rattle.laws.specs.Prelude.{List, ℕ, ℤ, length, drop}
use Rattle.decimal.specs.Decimal.{decimalℤ, Stops, Short}
use Rattle.decimal.specs.Parse.{Parsed, parsed, failed, parseℕ, parseℤ}

-- an answer as what is read from the front of a text: the place after a number as the text from there on
abbrev pub unsigned_of : List ℕ → Option (ℕ × ℕ) → Parsed ℕ
unsigned_of s (Some (n, next)) = parsed n (drop next s)
unsigned_of s None = failed

abbrev pub after_unsigned : Option (ℕ × ℕ) → ℕ
after_unsigned (Some (n, next)) = next
after_unsigned None = 0

abbrev pub value_of : Option (ℕ × ℕ) → ℕ
value_of (Some (n, next)) = n
value_of None = 0

pub record UnsignedRead (limit : ℕ) (s : List ℕ) (at : ℕ) (r : Option (ℕ × ℕ)) : Type 0 where
  pub answer : unsigned_of s r ≡ parseℕ limit (drop at s)
  pub within : after_unsigned r ≤ length s
  pub below : value_of r < limit

abbrev pub signed_left : List ℕ → Option (ℤ × ℕ) → Parsed ℤ
signed_left s (Some (v, next)) = parsed v (drop next s)
signed_left s None = failed

abbrev pub after_signed : Option (ℤ × ℕ) → ℕ
after_signed (Some (v, next)) = next
after_signed None = 0

-- the same in terms of the printer: v stands at the place as it is printed, and no digit comes after it; or no number does
abbrev pub StandsPrinted : List ℕ → ℕ → Option (ℤ × ℕ) → Type 0
StandsPrinted s at (Some (v, next)) = (next ≤ length s) × (drop at s ≡ decimalℤ v ++ drop next s) × Short v × Stops (drop next s)
StandsPrinted s at None = (v : ℤ) (t : List ℕ) → Short v → Stops t → drop at s ≡ decimalℤ v ++ t → ⊥

pub record SignedRead (s : List ℕ) (at : ℕ) (r : Option (ℤ × ℕ)) : Type 0 where
  pub answer : signed_left s r ≡ parseℤ 10000000 (drop at s)
  pub stands : StandsPrinted s at r
