-- A batch of tiles as numbers: the state's, and how many tiles were worked, how many planes used, which queue holds the carries, and why it ended.
use Rattle.std.specs.Prelude.{◌≡◌, ◌∷◌}
use Rattle.laws.specs.Prelude.{Bool, true, false, List, [], ℕ, Answer, refused, given}
use Rattle.row_statements.specs.State.{State}
use Rattle.batch_statements.specs.BatchLent.{BatchLent, sided}
use Rattle.batch_statements.specs.Batch.{BatchEnd, asked, row_end, no_room, next_refused, BatchGiven, batch_answer}
use Rattle.ffi_numbers.specs.Numbers.{refusal_number}
use Rattle.ffi_numbers.specs.Rows.{state_words, counts_of}

-- 0 where the first queue holds the carries, 1 where the second does
abbrev pub queue_number : Bool → ℕ
queue_number true = 0
queue_number false = 1

-- why it ended: 0 all that were asked for, 1 the row's end, 2 no room for a further tile, 3 the next tile would be refused
abbrev pub why_number : BatchEnd → ℕ
why_number asked = 0
why_number row_end = 1
why_number no_room = 2
why_number (next_refused number) = 3

-- by which number; 0 where that is not why it ended
abbrev pub next_number : BatchEnd → ℕ
next_number asked = 0
next_number row_end = 0
next_number no_room = 0
next_number (next_refused number) = number

abbrev pub done_of : ℕ → ℕ → Bool → BatchEnd → List ℕ
done_of worked used first end = worked ∷ used ∷ queue_number first ∷ why_number end ∷ next_number end ∷ []

-- the numbers that are lent
pub record BatchNumbers : Type 0 where
  pub words : List ℕ
  pub counts : List ℕ
  pub done : List ℕ

abbrev pub batch_numbers : List ℕ → List ℕ → List ℕ → BatchNumbers
batch_numbers words counts done = record { words = words; counts = counts; done = done }

-- what they are after a batch: a refused one leaves them as they were
abbrev pub numbers_by : Answer BatchEnd → State → ℕ → ℕ → Bool → BatchNumbers → BatchNumbers
numbers_by (refused number) s worked used first old = old
numbers_by (given end) s worked used first old = record { words = state_words s; counts = counts_of s; done = done_of worked used first end }

-- all that a batch gives and leaves; the lent memory is as it lies
pub record BatchTold (g : BatchGiven) (old : BatchNumbers) (r : ℕ) (new : BatchNumbers) (back : BatchLent) : Type 0 where
  pub number : r ≡ refusal_number (batch_answer g)
  pub numbers : new ≡ numbers_by (batch_answer g) g.at.state g.at.worked g.at.used g.at.first old
  pub lent_is : back ≡ sided g.at.first g.at.lent
