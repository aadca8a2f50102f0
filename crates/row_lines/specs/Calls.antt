-- The public calls that the lines of a driven row stand for: the work on each tile, and where it is painted the painting of each shown layer,
-- ascending. What is shown and counted is read from what the calls answered and left in lent memory, as a caller reads it. proofs/Calls has that
-- these are the lines of specs/Lines wherever the calls are a run, and that there is such a run.
use Rattle.std.specs.Prelude.{◌≡◌, ◌∷◌, ◌++◌, ◌+◌, ◌≤◌, None, Ok}
use Rattle.laws.specs.Prelude.{false, cond, List, [], ℕ, zero, suc, ones, ltb, Float, pos, length, take, refused, given}
use Rattle.laws.specs.Prelude.{plus}
use Rattle.refusals.specs.Refusal.{pass, refuse, given_or_refused}
use Rattle.segment_rows.specs.Rows.{Words}
use Rattle.cached_tile.specs.Kept.{no_tile}
use Rattle.pass_statements.specs.Decision.{code_of}
use Rattle.row_statements.specs.Lent.{Columns, is_queue_short, is_list_short}
use Rattle.row_statements.specs.State.{State, state_in}
use Rattle.row_statements.specs.Opening.{OpenCall, open_of, OpensRow}
use Rattle.row_statements.specs.TileWork.{WorkLent, TileAnswer, work_answer}
use Rattle.row_statements.specs.Due.{OpenRow, WorkChoice, PaintChoice}
use Rattle.row_statements.specs.Run.{open_row, Held, held_first, Event, Run}
use Rattle.row_statements.specs.declared.RowState.{RowState}
use Rattle.row_statements.specs.declared.TileWorked.{TileWorked}
use Rattle.row_statements.specs.declared.Painted.{Painted}
use Rattle.row_lines.specs.Shown.{shown_in}
use Rattle.row_lines.specs.Lines.{clear_color, is_paint, RowLines, lines_from}
use Rattle.row_lines.specs.declared.Line.{Line}

-- ---- what a driver chooses

-- the work on the tile from + n: no cached tile, the clear colour of the row program, and lent memory with room
pub record WorksTile (o : OpenRow) (n : ℕ) (c : WorkChoice) : Type 0 where
  pub tile : c.tile ≡ pos (o.from + n)
  pub kept : c.kept ≡ no_tile
  pub clear : c.clear ≡ clear_color
  pub previous : c.previous ≡ None
  pub queue_room : is_queue_short c.lent.queue ≡ false
  pub list_room : is_list_short c.lent.list ≡ false

-- the painting of a layer there, into a plane with room
pub record PaintsShown (o : OpenRow) (n id : ℕ) (c : PaintChoice) : Type 0 where
  pub tile : c.tile ≡ pos (o.from + n)
  pub layer : c.layer ≡ id
  pub room : ltb (length c.plane) 256 ≡ false

-- ---- what it reads

-- the shown layers, by a work's answer and the list that it left
abbrev pub shown_by : TileAnswer → WorkLent → List ℕ
shown_by t back = shown_in t.skipped (take t.listed back.list.unmasked) (take t.listed back.list.ids)

-- those that are to be painted
abbrev pub painted_by : TileAnswer → WorkLent → List ℕ
painted_by t back = cond (is_paint t.decision) (shown_by t back) []

abbrev pub line_by : TileAnswer → WorkLent → State → ℕ → Line
line_by t back s octets =
    record { decision = code_of t.decision; listed = t.listed; shown = length (shown_by t back); octets = octets; carried = s.left }

-- ---- the calls

-- layers painted in turn, each accepted, and how many ones their marks have
pub data Paintings (o : OpenRow) (n : ℕ) : List ℕ → List Event → ℕ → Type 0 where
  none : Paintings o n [] [] 0
  next : {id : ℕ} {ids : List ℕ} {c : PaintChoice} {r : Painted} {back : List Float} {es : List Event} {mark octets : ℕ} →
      PaintsShown o n id c →
      given_or_refused r.answer ≡ given mark →
      Paintings o n ids es octets →
      Paintings o n (id ∷ ids) (Event.paint c r back ∷ es) (ones mark + octets)

-- the work on k tiles from the tile from + n on, with the paintings after each, up to the first that is refused; and the lines that they tell
pub data LineCalls (o : OpenRow) : ℕ → ℕ → List Event → RowLines → Type 0 where
  none : {n : ℕ} → LineCalls o zero n [] (record { lines = []; end = pass })
  turned_down : {k n : ℕ} {c : WorkChoice} {r : TileWorked} {back : WorkLent} {number : ℕ} →
      WorksTile o n c →
      work_answer r.answer ≡ refused number →
      LineCalls o (suc k) n (Event.work c r back ∷ []) (record { lines = []; end = refuse number })
  next : {k n : ℕ} {c : WorkChoice} {r : TileWorked} {back : WorkLent} {t : TileAnswer} {ps es : List Event} {octets : ℕ} {rest : RowLines} →
      WorksTile o n c →
      work_answer r.answer ≡ given t →
      Paintings o n (painted_by t back) ps octets →
      LineCalls o k (suc n) es rest →
      LineCalls o (suc k) n (Event.work c r back ∷ (ps ++ es)) (record { lines = line_by t back (state_in r.state) octets ∷ rest.lines; end = rest.end })

-- ---- the claim, of the first k tiles of from..to after an accepted opening

-- every run of these calls tells the lines of the whole row
abbrev pub TellLines : Type 0
TellLines =
    (c : OpenCall) (lent back : Columns) (s : RowState) (k : ℕ) (es : List Event) (h : Held) (ls : RowLines) →
    Words c.row →
    OpensRow (open_of c lent) (Ok s) back →
    plus c.from + k ≤ plus c.to →
    Run (open_row c) (held_first s back) es h →
    LineCalls (open_row c) k 0 es ls →
    ls ≡ lines_from (open_row c) k 0

-- and there is one
pub record LinesTold (c : OpenCall) (s : RowState) (back : Columns) (k : ℕ) : Type 0 where
  pub events : List Event
  pub after : Held
  pub runs : Run (open_row c) (held_first s back) events after
  pub calls : LineCalls (open_row c) k 0 events (lines_from (open_row c) k 0)
