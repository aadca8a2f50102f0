-- How the code opens a row: the queue in columns of its own first, which are then written to the lent ones, all or nothing.
use Rattle.std.specs.Prelude.{◌≡◌, ◌*◌, ◌≤◌}
use Rattle.laws.specs.Prelude.{List, [], ℕ, ℤ, nat_abs, take, Answer, refused, given}
use Rattle.cover_statements.specs.Cover.{cover_at}
use Rattle.queue_statements.specs.Queue.{ids_in, covers_in}
use Rattle.queue_statements.specs.Opening.{open_queue, open_answer}

-- how many carries are written
abbrev pub written_count : Answer ℕ → ℕ
written_count (refused n) = 0
written_count (given n) = n

-- a column that is written, or nothing
abbrev pub list_if {ℓ} : {A : Type ℓ} → Answer ℕ → List A → List A
list_if (refused n) new = []
list_if (given n) new = new

-- every number is 0
pub record Clear (covers : List ℤ) : Type 0 where
  pub at : (place : ℕ) → nat_abs (cover_at covers place) ≡ 0

-- the answer, and the columns as far as they are written
pub record Gathered (left : List ℕ) (r : Answer ℕ) (ids : List ℕ) (covers : List ℤ) : Type 0 where
  pub answer : r ≡ open_answer left
  pub few : written_count r ≤ 256
  pub ids_are : take (written_count r) ids ≡ list_if r (ids_in (open_queue left))
  pub covers_are : take (written_count r * 16) covers ≡ list_if r (covers_in (open_queue left))
