-- The opening of a tile row as a public operation (`paint_tile_row` up to its first tile): judged by 1 to 4, then by 7 and 9; the queue of carries
-- from the segments left of `from`, and the state before the first tile. Stands for the clause on opening and for 'Turned down' at an opening; an
-- empty row and from = to pass.
use Rattle.row_statements.specs.declared.RowState.{RowState}
use Rattle.refusals.specs.declared.Refusal.{Refusal}
use Rattle.std.specs.Prelude.{◌≡◌, ◌||◌, Result, Ok, Err}
use Rattle.laws.specs.Prelude.{Bool, not, List, None, ℕ, suc, ℤ, pos, lt_z, Answer, refused, given, plus}
use Rattle.refusals.specs.Refusal.{Judgement, pass, refuse, unless, number_of}
use Rattle.pixel_segment.specs.Field.{cpu}
use Rattle.segment_rows.specs.Rows.{is_row}
use Rattle.segment_rows.specs.Search.{left_part}
use Rattle.queue_statements.specs.Queue.{Carry}
use Rattle.queue_statements.specs.Opening.{open_queue, open_answer}
use Rattle.row_statements.specs.Lent.{Columns, LentTable, is_queue_short, is_lent_short, is_lent_table, queue_over}
use Rattle.row_statements.specs.State.{State, state_in}

-- what an opening is called with, beside the queue that it may write
pub record OpenCall : Type 0 where
  pub tile_y : ℤ
  pub from : ℤ
  pub to : ℤ
  pub row : List ℕ
  pub table : LentTable

abbrev pub open_call : ℤ → ℤ → ℤ → List ℕ → LentTable → OpenCall
open_call tile_y from to row table = record { tile_y = tile_y; from = from; to = to; row = row; table = table }

-- its segments left of the first tile
abbrev pub left_of : OpenCall → List ℕ
left_of c = left_part c.from c.row

-- ---- the verdict

-- 2: row number below 0 or above 2,046; from below 0 or above to; to above 4,095
abbrev pub has_bad_ends : ℤ → ℤ → ℤ → Bool
has_bad_ends tile_y from to = lt_z tile_y (pos 0) || lt_z (pos 2046) tile_y || lt_z from (pos 0) || lt_z to from || lt_z (pos 4095) to

-- the lowest of 1 to 4 that applies
unfoldable pub open_verdict : OpenCall → Columns → Judgement
open_verdict c lent =
    unless (is_queue_short lent || is_lent_short c.table) 1
    (unless (has_bad_ends c.tile_y c.from c.to) 2
    (unless (not (is_row cpu (suc (plus c.tile_y)) c.row)) 3
    (unless (not (is_lent_table c.table)) 4
    pass)))

-- how many carries, or the number of the refusal: 7 and 9 are judged of the segments left of the first tile
abbrev pub open_count : Judgement → List ℕ → Answer ℕ
open_count (refuse number) left = refused number
open_count pass left = open_answer left

-- ---- what it gives: its answer, and the lent queue at exit

pub record OpenGiven : Type 0 where
  pub answer : Answer State
  pub lent : Columns

-- before the first tile n carries are left, none is taken in, and the painter has no clip
abbrev pub open_state : ℤ → ℤ → ℤ → ℕ → State
open_state tile_y from to n = record { tile_y = plus tile_y; from = plus from; to = plus to; next = plus from; left = n; taken = 0; clip = None }

abbrev pub state_by : ℤ → ℤ → ℤ → Answer ℕ → Answer State
state_by tile_y from to (refused number) = refused number
state_by tile_y from to (given n) = given (open_state tile_y from to n)

abbrev pub queue_by : Answer ℕ → List Carry → Columns → Columns
queue_by (refused number) q lent = lent
queue_by (given n) q lent = queue_over q lent

abbrev pub open_out : Answer ℕ → OpenCall → Columns → OpenGiven
open_out count c lent = record { answer = state_by c.tile_y c.from c.to count; lent = queue_by count (open_queue (left_of c)) lent }

unfoldable pub open_of : OpenCall → Columns → OpenGiven
open_of c lent = open_out (open_count (open_verdict c lent) (left_of c)) c lent

-- ---- the promise

-- the cases of the code's answer
abbrev pub opened_answer : Result RowState Refusal → Answer State
opened_answer (Ok s) = given (state_in s)
opened_answer (Err r) = refused (number_of r)

pub record OpensRow (g : OpenGiven) (r : Result RowState Refusal) (back : Columns) : Type 0 where
  pub answer : opened_answer r ≡ g.answer
  pub lent_is : back ≡ g.lent
