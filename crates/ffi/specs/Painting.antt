-- Painting a layer as numbers: what it answers, and what it leaves.
use Rattle.std.specs.Prelude.{◌≡◌}
use Rattle.laws.specs.Prelude.{List, ℕ, Float, Answer, refused, given}
use Rattle.row_statements.specs.State.{State}
use Rattle.row_statements.specs.Painting.{PaintGiven}
use Rattle.ffi_numbers.specs.Numbers.{refusal_number}
use Rattle.ffi_numbers.specs.Rows.{state_words, counts_of}

-- the numbers that are lent: the state's, and the mark
pub record PaintNumbers : Type 0 where
  pub words : List ℕ
  pub counts : List ℕ
  pub mark : ℕ

abbrev pub paint_numbers : List ℕ → List ℕ → ℕ → PaintNumbers
paint_numbers words counts mark = record { words = words; counts = counts; mark = mark }

-- what they are after a painting; a refusal leaves every one as it was
abbrev pub painted_numbers : Answer ℕ → State → PaintNumbers → PaintNumbers
painted_numbers (refused number) s old = old
painted_numbers (given mark) s old = record { words = state_words s; counts = counts_of s; mark = mark }

-- all that a painting gives and leaves
pub record PaintTold (g : PaintGiven) (old : PaintNumbers) (r : ℕ) (new : PaintNumbers) (back : List Float) : Type 0 where
  pub number : r ≡ refusal_number g.answer
  pub numbers : new ≡ painted_numbers g.answer g.state old
  pub plane_is : back ≡ g.plane
