-- What holds of every load. Stands for document 02, W-204: 'the job reader is proved to accept every such text, and its rows ascend'. Beyond
-- that, its layers are a table, and so an opening of its job, from tile 0 and with a queue that is long enough, is not refused; after it only 9 is.
use Rattle.std.specs.Prelude.{◌≡◌, ◌≤◌}
use Rattle.laws.specs.Prelude.{true, false, List, Option, Some, None, ℕ, Float, pos, length, given}
use Rattle.pixel_segment.specs.Field.{cpu}
use Rattle.segment_rows.specs.Rows.{is_row}
use Rattle.row_statements.specs.Lent.{Columns, is_queue_short, is_lent_table}
use Rattle.row_statements.specs.Opening.{open_state, open_of}
use Rattle.job_text_statements.specs.Job.{render}
use Rattle.job_statements.specs.Read as reading
use Rattle.job_statements.specs.Read.{job_outcome}
use Rattle.load_statements.specs.declared.Asked.{Asked}
use Rattle.load_statements.specs.Load.{load_of}
use Rattle.load_statements.specs.Input.{Asks}
use Rattle.load_statements.specs.Opened.{load_row, load_table, opening_of}
use Rattle.load_statements.specs.Worked.{LoadWorked}

pub record LoadMade (a : Asked) : Type 0 where
  -- lent arrays that hold eight layers and its segments are written, and the answer is the numbers of its job
  pub accepted : (layers : List ℕ) (colors : List Float) (row : List ℕ) → 64 ≤ length layers → 32 ≤ length colors → a.count ≤ length row
      → job_outcome (render (load_of a)) layers colors row ≡ reading.accepted (load_of a)
  -- tile y is stored plus 1: the row is in order, and each of its words has tile y 0
  pub ascends : is_row cpu 1 (load_row a) ≡ true
  pub table : is_lent_table (load_table a) ≡ true
  -- no segment lies left of tile 0: no carry, and the lent queue as it was
  pub opens : (lent : Columns) → is_queue_short lent ≡ false
      → open_of (opening_of a) lent ≡ record { answer = given (open_state (pos 0) (pos 0) (pos a.tiles) 0); lent = lent }
  -- and from there on a tile is refused by 9 or not at all
  pub worked : LoadWorked a

-- ---- what reading a line tells: the load that it asks for, or that it is no such line

abbrev pub LoadTells : List ℕ → Option Asked → Type 0
LoadTells text (Some a) = Asks text a × LoadMade a
LoadTells text None = (a : Asked) → Asks text a → ⊥
