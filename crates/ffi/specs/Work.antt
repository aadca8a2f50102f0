-- The work on a tile as numbers: the decision (0 none, 1 solid, 2 paint), of a solid tile how many shown layers lie before those to mix, how many
-- layers are listed, how many are skipped; and of a solid tile the bottom colour.
use Rattle.std.specs.Prelude.{◌≡◌, ◌∷◌}
use Rattle.laws.specs.Prelude.{List, [], ℕ, Float, Answer, refused, given}
use Rattle.cached_tile.specs.declared.kept.Kept.{Kept}
use Rattle.pass_statements.specs.Decision.{TileDecision, none, solid, paint, code_of}
use Rattle.row_statements.specs.State.{State}
use Rattle.row_statements.specs.TileWork.{TileAnswer, WorkLent, WorkGiven}
use Rattle.batch_statements.specs.BatchLent.{before_of}
use Rattle.ffi_numbers.specs.Numbers.{refusal_number}
use Rattle.ffi_numbers.specs.Cached.{bytes_by}
use Rattle.ffi_numbers.specs.Rows.{state_words, counts_of}

-- the lent colour, which a tile that is not solid leaves as it was
abbrev pub bottom_by : TileDecision → List Float → List Float
bottom_by none old = old
bottom_by (solid bottom before) old = bottom.r ∷ bottom.g ∷ bottom.b ∷ bottom.a ∷ []
bottom_by paint old = old

abbrev pub told_of : TileAnswer → List ℕ
told_of t = code_of t.decision ∷ before_of t.decision ∷ t.listed ∷ t.skipped ∷ []

-- the numbers that are lent: the state's, the cached tile's bytes, the answer's, and the bottom colour
pub record WorkNumbers : Type 0 where
  pub words : List ℕ
  pub counts : List ℕ
  pub kept : List ℕ
  pub told : List ℕ
  pub bottom : List Float

abbrev pub work_numbers : List ℕ → List ℕ → List ℕ → List ℕ → List Float → WorkNumbers
work_numbers words counts k told bottom = record { words = words; counts = counts; kept = k; told = told; bottom = bottom }

-- what they are after a work; a refusal leaves every one as it was
abbrev pub worked_numbers : Answer TileAnswer → State → Kept → WorkNumbers → WorkNumbers
worked_numbers (refused number) s k old = old
worked_numbers (given t) s k old =
    record { words = state_words s; counts = counts_of s; kept = bytes_by k old.kept; told = told_of t; bottom = bottom_by t.decision old.bottom }

-- all that a work gives and leaves
pub record WorkTold (g : WorkGiven) (old : WorkNumbers) (r : ℕ) (new : WorkNumbers) (back : WorkLent) : Type 0 where
  pub number : r ≡ refusal_number g.answer
  pub numbers : new ≡ worked_numbers g.answer g.state g.kept old
  pub lent_is : back ≡ g.lent
