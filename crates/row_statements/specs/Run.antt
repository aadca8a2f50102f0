-- A run: an accepted opening's row, and any list of tile works and paintings after it, refused ones included, as the calls went. The premise of each
-- step is the operation's own contract, at what the caller holds, chooses and lends.
use Rattle.row_statements.specs.declared.TileDone.{TileDone}
use Rattle.refusals.specs.declared.Refusal.{Refusal}
use Rattle.std.specs.Prelude.{◌≡◌, ◌∷◌, Result, Ok, Err}
use Rattle.laws.specs.Prelude.{List, [], ℕ, Float, plus}
use Rattle.refusals.specs.Refusal.{refuse}
use Rattle.queue_statements.specs.Queue.{is_queue}
use Rattle.row_statements.specs.Lent.{Columns, carries_in, is_queue_short}
use Rattle.row_statements.specs.State.{State, state_in}
use Rattle.row_statements.specs.Opening.{OpenCall}
use Rattle.row_statements.specs.TileWork.{WorkCall, WorkLent, work_verdict, work_of, GivesWork}
use Rattle.row_statements.specs.Painting.{PaintCall, paint_verdict, paint_of, PaintsLayer}
use Rattle.row_statements.specs.Due.{OpenRow, WorkChoice, PaintChoice}
use Rattle.row_statements.specs.declared.RowState.{RowState}
use Rattle.row_statements.specs.declared.TileWorked.{TileWorked}
use Rattle.row_statements.specs.declared.Painted.{Painted}

-- the row that an opening opens
abbrev pub open_row : OpenCall → OpenRow
open_row c = record { tile_y = plus c.tile_y; from = plus c.from; to = plus c.to; row = c.row; table = c.table }

-- what the caller holds between calls: the state that the last call returned, the queue that the last accepted work left, and the one that it
-- took in
pub record Held : Type 0 where
  pub state : State
  pub queue : Columns
  pub taken : Columns

-- before the first call both queues are the opening's
abbrev pub held_first : RowState → Columns → Held
held_first s back = record { state = state_in s; queue = back; taken = back }

-- memory that holds the same n carries, and is judged alike by 1 and 5: a caller may keep its carries in other columns, or as records
pub record SameCarries (n : ℕ) (a b : Columns) : Type 0 where
  pub reads : carries_in n b ≡ carries_in n a
  pub room : is_queue_short b ≡ is_queue_short a
  pub order : is_queue n b.ids ≡ is_queue n a.ids

-- a call as it went: what the caller chose and lent, what came back, and what then stood in the lent lists. A call may also be turned down whose
-- row, table or queue is another than the row's
pub data Event : Type 0 where
  work : (c : WorkChoice) (r : TileWorked) (back : WorkLent) → Event
  paint : (c : PaintChoice) (r : Painted) (back : List Float) → Event
  other_work : (a : WorkCall) (lent : WorkLent) (r : TileWorked) (back : WorkLent) → Event
  other_paint : (a : PaintCall) (plane : List Float) (r : Painted) (back : List Float) → Event

abbrev pub work_on : OpenRow → Held → WorkChoice → WorkCall
work_on o h c =
    record { state = h.state; tile = c.tile; row = o.row; table = o.table; kept = c.kept; clear = c.clear; previous = c.previous; queue = c.queue }

abbrev pub paint_onto : OpenRow → Held → PaintChoice → PaintCall
paint_onto o h c = record { state = h.state; tile = c.tile; layer = c.layer; row = o.row; table = o.table; queue = c.queue }

-- what the caller holds after a work, by the answer that it got
abbrev pub held_after : Result TileDone Refusal → State → Held → Columns → WorkLent → Held
held_after (Err r) s h queue back = record { state = s; queue = h.queue; taken = h.taken }
held_after (Ok d) s h queue back = record { state = s; queue = back.queue; taken = queue }

pub data Step (o : OpenRow) : Held → Event → Held → Type 0 where
  work : {h : Held} {c : WorkChoice} {r : TileWorked} {back : WorkLent} →
      SameCarries h.state.left h.queue c.queue →
      GivesWork (work_of (work_on o h c) c.lent) r back →
      Step o h (Event.work c r back) (held_after r.answer (state_in r.state) h c.queue back)
  paint : {h : Held} {c : PaintChoice} {r : Painted} {back : List Float} →
      SameCarries h.state.taken h.taken c.queue →
      PaintsLayer (paint_of (paint_onto o h c) c.plane) r back →
      Step o h (Event.paint c r back) (record { state = state_in r.state; queue = h.queue; taken = h.taken })
  other_work : {h : Held} {a : WorkCall} {lent : WorkLent} {n : ℕ} {r : TileWorked} {back : WorkLent} →
      a.state ≡ h.state → work_verdict a lent ≡ refuse n →
      GivesWork (work_of a lent) r back →
      Step o h (Event.other_work a lent r back) (record { state = state_in r.state; queue = h.queue; taken = h.taken })
  other_paint : {h : Held} {a : PaintCall} {plane : List Float} {n : ℕ} {r : Painted} {back : List Float} →
      a.state ≡ h.state → paint_verdict a plane ≡ refuse n →
      PaintsLayer (paint_of a plane) r back →
      Step o h (Event.other_paint a plane r back) (record { state = state_in r.state; queue = h.queue; taken = h.taken })

-- any list of calls
pub data Run (o : OpenRow) : Held → List Event → Held → Type 0 where
  none : {h : Held} → Run o h [] h
  next : {h h' h'' : Held} {e : Event} {es : List Event} → Step o h e h' → Run o h' es h'' → Run o h (e ∷ es) h''
