-- What driving a row promises: how many lines are written, the refusal that ended it, and every entry of the lent array, which has a line for each
-- tile that a row can have. The opening is judged first, then the tiles one after the other. Stands for 'a refusal [..] after the names and the
-- tiles already worked' of the row program.
use Rattle.refusals.specs.declared.Refusal.{Refusal}
use Rattle.std.specs.Prelude.{◌≡◌, ◌-◌, Result, Ok, Err}
use Rattle.laws.specs.Prelude.{List, [], Option, Some, None, ℕ, min, ℤ, pos, length, replicate, Answer, refused, given, plus, over}
use Rattle.refusals.specs.Refusal.{Judgement, pass, refuse, number_of}
use Rattle.row_statements.specs.Lent.{Columns}
use Rattle.row_statements.specs.State.{State}
use Rattle.row_statements.specs.Opening.{OpenCall, open_of}
use Rattle.row_statements.specs.Due.{OpenRow}
use Rattle.row_statements.specs.Run.{open_row}
use Rattle.row_lines.specs.Lines.{RowLines, lines_from, lines_words}
use Rattle.row_lines.specs.declared.Line.{Line}

-- how many tiles of from..to the row has; none lies beyond 4,094
abbrev pub due_tiles : ℤ → ℤ → ℤ → ℕ
due_tiles from to tiles = min (min (plus to) (plus tiles)) 4095 - plus from

-- the lines, and the number of the refusal that ended them
pub record Driving : Type 0 where
  pub lines : List Line
  pub refusal : Option ℕ

abbrev pub refusal_of : Judgement → Option ℕ
refusal_of pass = None
refusal_of (refuse number) = Some number

abbrev pub driving_of : RowLines → Driving
driving_of ls = record { lines = ls.lines; refusal = refusal_of ls.end }

-- by what the opening answers, into an empty queue of 256 entries
abbrev pub opened_driving : Answer State → OpenRow → ℕ → Driving
opened_driving (refused number) o k = record { lines = []; refusal = Some number }
opened_driving (given s) o k = driving_of (lines_from o k 0)

abbrev pub empty_queue : Columns
empty_queue = record { ids = replicate 256 0; covers = replicate 4096 (pos 0) }

unfoldable pub row_driving : OpenCall → ℤ → Driving
row_driving c tiles = opened_driving (open_of c empty_queue).answer (open_row c) (due_tiles c.from c.to tiles)

-- ---- the answer

pub record LinesWritten : Type 0 where
  pub written : ℕ
  pub refusal : Option ℕ

-- the cases of the answer
abbrev pub lines_written : Result ℕ (Refusal × ℕ) → LinesWritten
lines_written (Ok n) = record { written = n; refusal = None }
lines_written (Err (r, n)) = record { written = n; refusal = Some (number_of r) }

-- how many lines are written and the refusal, and the lines over what the array held
pub record Drives (d : Driving) (old : List ℕ) (r : Result ℕ (Refusal × ℕ)) (lines : List ℕ) : Type 0 where
  pub answer : lines_written r ≡ record { written = length d.lines; refusal = d.refusal }
  pub long : length lines ≡ length old
  pub lines_are : lines ≡ over (lines_words d.lines) old
