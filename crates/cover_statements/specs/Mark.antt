-- Which octets of a plane a draw uses, and the mark that says so. Octet h (0 or 1) of a column is its rows 8h to 8h + 7; bit 2 × column + h of
-- the mark is set when some coverage of it is above 0. The octet count is the number of used octets.
use Rattle.refusals.specs.Refusal.{number_of}
use Rattle.refusals.specs.declared.Refusal.{Refusal}
use Rattle.std.specs.Prelude.{◌||◌, ◌≡◌, ◌∷◌, ◌+◌, ◌*◌, ◌/◌, ◌%◌, Result, Ok, Err}
use Rattle.laws.specs.Prelude.{Bool, false, cond, List, [], ℕ, zero, suc, ones, ltb, length, get_or, Float, nan}
use Rattle.laws.specs.Prelude.{bool_byte, Answer, refused, given, tabulate}
use Rattle.cover_statements.specs.Coverage.{is_above}
use Rattle.cover_statements.specs.Plane.{place_of, size_of}

-- the coverage of row i of octet h of a column is above 0
abbrev pub above_at : List Float → ℕ → ℕ → ℕ → Bool
above_at plane column h i = is_above (get_or plane (place_of column (8 * h + i)) nan)

-- the test f passes at some number below n
abbrev pub some : ℕ → (ℕ → Bool) → Bool
some zero f = false
some (suc n) f = some n f || f n

-- some coverage of octet h of a column is above 0
abbrev pub is_octet_used : List Float → ℕ → ℕ → Bool
is_octet_used plane column h = some 8 (above_at plane column h)

-- the 32 octets, at 2 × column + h: which are used
unfoldable pub used_octets : List Float → List Bool
used_octets plane = tabulate 32 (λ octet. is_octet_used plane (octet / 2) (octet % 2))

-- 1 for true and 0 for false
abbrev pub bit : Bool → ℕ
bit b = bool_byte b

-- the number whose binary digits are the flags, the first the lowest
unfoldable pub binary_number : List Bool → ℕ
binary_number [] = 0
binary_number (b ∷ bs) = binary_number bs * 2 + bit b

-- how many flags are set
unfoldable pub count_true : List Bool → ℕ
count_true [] = 0
count_true (b ∷ bs) = bit b + count_true bs

unfoldable pub mark_of : List Float → ℕ
mark_of plane = binary_number (used_octets plane)

-- the mark as it was worked out of a plane by columns, before W-209: the eight numbers from 8 × octet on are an octet
unfoldable pub some_above : List Float → ℕ → Bool
some_above plane octet = some 8 (λ i. is_above (get_or plane (8 * octet + i) nan))

abbrev pub mark_by_columns : List Float → ℕ
mark_by_columns plane = binary_number (tabulate 32 (some_above plane))

unfoldable pub octets_of : List Float → ℕ
octets_of plane = count_true (used_octets plane)

-- what marking a plane answers: its mark, or refused by 1 where the plane is below 256 numbers
abbrev pub marked : List Float → Answer ℕ
marked plane = cond (ltb (length plane) (size_of 16)) (refused 1) (given (mark_of plane))

-- the count of a mark's octets: its ones, which are the used octets of every plane with this mark
pub record Counted (mark r : ℕ) : Type 0 where
  pub ones_are : r ≡ ones mark
  pub used : (plane : List Float) → mark ≡ mark_of plane → r ≡ octets_of plane
