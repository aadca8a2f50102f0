-- Deciding about a tile as numbers: the cached tile's bytes; the decision, of a solid tile how many shown layers lie before those to mix, how many
-- layers are skipped; and of a solid tile the bottom colour.
use Rattle.std.specs.Prelude.{◌≡◌, ◌∷◌}
use Rattle.laws.specs.Prelude.{Bool, List, [], ℕ, Float, Answer, refused, given}
use Rattle.cached_tile.specs.declared.kept.Kept.{Kept}
use Rattle.pass_statements.specs.Decision.{code_of}
use Rattle.listing_statements.specs.Deciding as deciding
use Rattle.listing_statements.specs.Deciding.{DecideGiven}
use Rattle.ffi_numbers.specs.Numbers.{refusal_number}
use Rattle.ffi_numbers.specs.Cached.{bytes_by}
use Rattle.batch_statements.specs.BatchLent.{before_of}
use Rattle.ffi.specs.Work.{bottom_by}

-- the numbers that are lent
pub record DecideNumbers : Type 0 where
  pub kept : List ℕ
  pub told : List ℕ
  pub bottom : List Float

abbrev pub decide_numbers : List ℕ → List ℕ → List Float → DecideNumbers
decide_numbers k told bottom = record { kept = k; told = told; bottom = bottom }

-- what they are after a deciding; a refusal leaves every one as it was
abbrev pub decided_numbers : Answer deciding.DecideSays → Kept → DecideNumbers → DecideNumbers
decided_numbers (refused number) k old = old
decided_numbers (given t) k old =
    record {
      kept = bytes_by k old.kept;
      told = code_of t.decision ∷ before_of t.decision ∷ t.skipped ∷ [];
      bottom = bottom_by t.decision old.bottom;
    }

-- all that a deciding gives and leaves
pub record DecideTold (g : DecideGiven) (old : DecideNumbers) (r : ℕ) (new : DecideNumbers) (back : List Bool) : Type 0 where
  pub number : r ≡ refusal_number g.answer
  pub numbers : new ≡ decided_numbers g.answer g.kept old
  pub unmasked_is : back ≡ g.unmasked
