-- A caller that keeps its carries as records: what is asked of them so that its calls are steps of a
-- run (row_statements/specs/Run), and the claim that they are, after every opening and any calls.
use Rattle.std.specs.Prelude.{◌≡◌, ◌≤◌, Ok}
use Rattle.laws.specs.Prelude.{List, ℕ, Float, length, take}
use Rattle.segment_rows.specs.Rows.{Words}
use Rattle.queue_records.specs.Records.{carries_of}
use Rattle.queue_records.specs.declared.CarryRecord.{CarryRecord}
use Rattle.row_statements.specs.Lent.{Columns, carries_in}
use Rattle.row_statements.specs.State.{state_in}
use Rattle.row_statements.specs.Opening.{OpenCall, open_of, OpensRow}
use Rattle.row_statements.specs.TileWork.{WorkLent, work_of, GivesWork}
use Rattle.row_statements.specs.Painting.{paint_of, PaintsLayer}
use Rattle.row_statements.specs.Due.{OpenRow, WorkChoice, PaintChoice}
use Rattle.row_statements.specs.Run.{open_row, Held, held_first, work_on, paint_onto, held_after, Event, Step, Run}
use Rattle.row_statements.specs.declared.RowState.{RowState}
use Rattle.row_statements.specs.declared.TileWorked.{TileWorked}
use Rattle.row_statements.specs.declared.Painted.{Painted}
use Rattle.tile_row_columns.specs.Lent.{columns_for}

-- 256 records or more, of which the first n are the first n carries of the columns
pub record HoldsCarries (n : ℕ) (k : Columns) (q : List CarryRecord) : Type 0 where
  pub few : n ≤ 256
  pub long : 256 ≤ length q
  pub reads : carries_of (take n q) ≡ carries_in n k

-- the caller's choices, with its carries in records
abbrev pub work_with : WorkChoice → List CarryRecord → WorkChoice
work_with c q = record { tile = c.tile; kept = c.kept; clear = c.clear; previous = c.previous; queue = columns_for q; lent = c.lent }

abbrev pub paint_with : PaintChoice → List CarryRecord → PaintChoice
paint_with c q = record { tile = c.tile; layer = c.layer; queue = columns_for q; plane = c.plane }

-- what holds of the row and of what the caller holds, after every accepted opening of a row of 64-bit words and every list of calls after it
abbrev pub AfterCalls : (OpenRow → Held → Type 0) → Type 0
AfterCalls P =
    (c : OpenCall) (lent back : Columns) (s : RowState) (es : List Event) (h : Held) →
    Words c.row →
    OpensRow (open_of c lent) (Ok s) back →
    Run (open_row c) (held_first s back) es h →
    P (open_row c) h

-- there, what `working::work_tile` and `painting::paint_layer` promise makes their calls steps
abbrev pub WorkStep : Type 0
WorkStep =
    AfterCalls
    (λ o h. (c : WorkChoice) (q : List CarryRecord) (r : TileWorked) (back : WorkLent) →
    HoldsCarries h.state.left h.queue q →
    GivesWork (work_of (work_on o h (work_with c q)) c.lent) r back →
    Step o h (Event.work (work_with c q) r back) (held_after r.answer (state_in r.state) h (columns_for q) back))

abbrev pub PaintStep : Type 0
PaintStep =
    AfterCalls
    (λ o h. (c : PaintChoice) (q : List CarryRecord) (r : Painted) (back : List Float) →
    HoldsCarries h.state.taken h.taken q →
    PaintsLayer (paint_of (paint_onto o h (paint_with c q)) c.plane) r back →
    Step o h (Event.paint (paint_with c q) r back) (record { state = state_in r.state; queue = h.queue; taken = h.taken }))
