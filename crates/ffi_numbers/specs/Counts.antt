-- Whether a tile may keep its count, told by numbers: the refusal or 0, whether the count stays, and the cached tile's bytes.
use Rattle.std.specs.Prelude.{◌≡◌}
use Rattle.laws.specs.Prelude.{Bool, List, ℕ, Answer, refused, given}
use Rattle.cached_tile.specs.declared.kept.Kept.{Kept}
use Rattle.kept_count.specs.Keeping.{CountGiven}
use Rattle.ffi_numbers.specs.Numbers.{refusal_number}
use Rattle.ffi_numbers.specs.Cached.{bytes_by}

-- the numbers that are lent
pub record CountNumbers : Type 0 where
  pub kept : List ℕ
  pub stays : Bool

abbrev pub count_numbers : List ℕ → Bool → CountNumbers
count_numbers k stays = record { kept = k; stays = stays }

-- what they are after a call; a refusal leaves every one as it was
abbrev pub counted_numbers : Answer Bool → Kept → CountNumbers → CountNumbers
counted_numbers (refused number) k old = old
counted_numbers (given may) k old = record { kept = bytes_by k old.kept; stays = may }

-- all that a call gives and leaves
pub record CountTold (g : CountGiven) (old : CountNumbers) (r : ℕ) (new : CountNumbers) : Type 0 where
  pub number : r ≡ refusal_number g.answer
  pub numbers : new ≡ counted_numbers g.answer g.kept old
