-- Listing a tile as numbers: the state, and how many layers are listed.
use Rattle.std.specs.Prelude.{◌≡◌}
use Rattle.laws.specs.Prelude.{List, ℕ, Answer, refused, given}
use Rattle.row_statements.specs.State.{State}
use Rattle.listing_statements.specs.Listing.{ListLent, ListGiven}
use Rattle.ffi_numbers.specs.Numbers.{refusal_number}
use Rattle.ffi_numbers.specs.Rows.{state_words, counts_of}

-- the numbers that are lent
pub record ListNumbers : Type 0 where
  pub words : List ℕ
  pub counts : List ℕ
  pub listed : ℕ

abbrev pub list_numbers : List ℕ → List ℕ → ℕ → ListNumbers
list_numbers words counts listed = record { words = words; counts = counts; listed = listed }

-- what they are after a listing; a refusal leaves every one as it was
abbrev pub listed_numbers : Answer ℕ → State → ListNumbers → ListNumbers
listed_numbers (refused number) s old = old
listed_numbers (given n) s old = record { words = state_words s; counts = counts_of s; listed = n }

-- all that a listing gives and leaves
pub record ListTold (g : ListGiven) (old : ListNumbers) (r : ℕ) (new : ListNumbers) (back : ListLent) : Type 0 where
  pub number : r ≡ refusal_number g.answer
  pub numbers : new ≡ listed_numbers g.answer g.state old
  pub lent_is : back ≡ g.lent
