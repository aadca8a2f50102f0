-- W-210: outlines run backwards. A row whose covers lie in -31 to 31 and the row with every cover negated are worked by the same calls, refused ones
-- included: listings, decidings, works and paintings. Then every call answers the same, and every carry is negated, exactly. Mildness is asked of the
-- whole row, right of its last tile too. What the two runs' memory held before is free; what is lent has room for both or for neither.
use Rattle.refusals.specs.declared.Refusal.{Refusal}
use Rattle.std.specs.Prelude.{◌≡◌, ◌∷◌, Result, Ok}
use Rattle.laws.specs.Prelude.{Bool, List, [], map, ℕ, Float, length, take, Answer, refused, given}
use Rattle.refusals.specs.Refusal.{refuse, given_or_refused}
use Rattle.pixel_segment.specs.Field.{cpu}
use Rattle.pixel_segment.specs.Opposite.{opposite_of, Mild}
use Rattle.segment_rows.specs.Rows.{Words}
use Rattle.queue_statements.specs.Queue.{Carry}
use Rattle.queue_statements.specs.Opposite.{opposite_carry}
use Rattle.pass_statements.specs.Entry.{Entry}
use Rattle.pass_statements.specs.Opposite.{opposite_entry}
use Rattle.row_statements.specs.Lent.{Columns, ListColumns, carries_in, entries_in, is_queue_short}
use Rattle.row_statements.specs.State.{State, state_in}
use Rattle.row_statements.specs.Opening.{OpenCall, open_of, opened_answer, OpensRow}
use Rattle.row_statements.specs.TileWork.{WorkCall, WorkLent, TileAnswer, work_answer, work_verdict}
use Rattle.row_statements.specs.Painting.{PaintCall, paint_verdict}
use Rattle.row_statements.specs.Due.{OpenRow, at_first, WorkChoice, PaintChoice, layers_on}
use Rattle.row_statements.specs.Run.{open_row, held_first, Event}
use Rattle.row_statements.specs.declared.RowState.{RowState}
use Rattle.row_statements.specs.declared.TileWorked.{TileWorked}
use Rattle.row_statements.specs.declared.Painted.{Painted}
use Rattle.listing_statements.specs.Listing.{ListCall, ListLent, TileList, entries_from, listing_verdict}
use Rattle.listing_statements.specs.Deciding.{DecideCall, DecideSays, decide_answer}
use Rattle.listing_statements.specs.declared.TileListed.{TileListed}
use Rattle.listing_statements.specs.declared.TileDecided.{TileDecided}
use Rattle.listing_runs.specs.Due.{ListChoice, DecideChoice, nth_on}
use Rattle.listing_runs.specs.Run.{HeldAll, held_with, RowCall, RowCalls}
use Rattle.listing_runs.specs.Example.{CallChoice, call_choices_due, call_dues_of}
use Rattle.two_rows.specs.SameCalls.{AlikeCalls}

-- the same opening, of the opposite row
abbrev pub opposite_call : OpenCall → OpenCall
opposite_call c = record { tile_y = c.tile_y; from = c.from; to = c.to; row = map (opposite_of cpu) c.row; table = c.table }

-- ---- what a call leaves, read back by its answer; a refused one leaves nothing to read

abbrev pub list_read : Answer TileAnswer → ListColumns → List Entry
list_read (refused n) back = []
list_read (given t) back = entries_in t.listed back

abbrev pub masks_read : Answer TileAnswer → ListColumns → List Bool
masks_read (refused n) back = []
masks_read (given t) back = take t.listed back.unmasked

abbrev pub carries_read : {A : Type 0} → Answer A → State → Columns → List Carry
carries_read (refused n) s back = []
carries_read (given t) s back = carries_in s.left back

abbrev pub entries_read : Answer ℕ → TileList → List Entry
entries_read (refused number) back = []
entries_read (given n) back = entries_from n back

-- of a column of masks whose list has n entries
abbrev pub decided_read : Answer DecideSays → ℕ → List Bool → List Bool
decided_read (refused number) n back = []
decided_read (given t) n back = take n back

abbrev pub plane_read : Answer ℕ → List Float → List Float
plane_read (refused number) back = []
plane_read (given mark) back = take 256 back

-- ---- what the two runs say of a call: the primed one is the opposite row's

-- the decision, how many layers are listed and skipped, or the number of the refusal; the state and the cached tile; the list with its covers
-- negated, the masks, and the carries negated
pub record BackWork (r r' : TileWorked) (back back' : WorkLent) : Type 0 where
  pub answer : work_answer r'.answer ≡ work_answer r.answer
  pub state : state_in r'.state ≡ state_in r.state
  pub kept : r'.kept ≡ r.kept
  pub list : list_read (work_answer r'.answer) back'.list ≡ map opposite_entry (list_read (work_answer r.answer) back.list)
  pub masks : masks_read (work_answer r'.answer) back'.list ≡ masks_read (work_answer r.answer) back.list
  pub carries : carries_read (work_answer r'.answer) (state_in r'.state) back'.queue ≡ map opposite_carry (carries_read (work_answer r.answer) (state_in r.state) back.queue)

-- the mark, or the number of the refusal; the state with the painter's clip; the 256 coverages
pub record BackPaint (r r' : Painted) (back back' : List Float) : Type 0 where
  pub answer : given_or_refused r'.answer ≡ given_or_refused r.answer
  pub state : state_in r'.state ≡ state_in r.state
  pub plane : plane_read (given_or_refused r'.answer) back' ≡ plane_read (given_or_refused r.answer) back

pub record BackList (r r' : TileListed) (back back' : ListLent) : Type 0 where
  pub answer : given_or_refused r'.answer ≡ given_or_refused r.answer
  pub state : state_in r'.state ≡ state_in r.state
  pub list : entries_read (given_or_refused r'.answer) back'.list ≡ map opposite_entry (entries_read (given_or_refused r.answer) back.list)
  pub carries : carries_read (given_or_refused r'.answer) (state_in r'.state) back'.queue ≡ map opposite_carry (carries_read (given_or_refused r.answer) (state_in r.state) back.queue)

-- n being how many layers the decided tile lists
pub record BackDecide (n : ℕ) (r r' : TileDecided) (back back' : List Bool) : Type 0 where
  pub answer : decide_answer r'.answer ≡ decide_answer r.answer
  pub kept : r'.kept ≡ r.kept
  pub masks : decided_read (decide_answer r'.answer) n back' ≡ decided_read (decide_answer r.answer) n back

-- calls with another row, table or queue, where both are turned down by one number, answer it and leave one state; a deciding from any list says the
-- same of the same call
pub data BackCall (o : OpenRow) : RowCall → RowCall → Type 0 where
  work : {c c' : WorkChoice} {r r' : TileWorked} {back back' : WorkLent} → BackWork r r' back back' → BackCall o (RowCall.row (Event.work c r back)) (RowCall.row (Event.work c' r' back'))
  paint : {c c' : PaintChoice} {r r' : Painted} {back back' : List Float} → BackPaint r r' back back' → BackCall o (RowCall.row (Event.paint c r back)) (RowCall.row (Event.paint c' r' back'))
  list : {c c' : ListChoice} {r r' : TileListed} {back back' : ListLent} → BackList r r' back back' → BackCall o (RowCall.list c r back) (RowCall.list c' r' back')
  decide : {c c' : DecideChoice} {r r' : TileDecided} {back back' : List Bool} → BackDecide (length (layers_on o (nth_on o c))) r r' back back' → BackCall o (RowCall.decide c r back) (RowCall.decide c' r' back')
  other_work : {a a' : WorkCall} {lent lent' : WorkLent} {r r' : TileWorked} {back back' : WorkLent} →
      ((n : ℕ) → work_verdict a lent ≡ refuse n → work_verdict a' lent' ≡ refuse n → (work_answer r'.answer ≡ work_answer r.answer) × (state_in r'.state ≡ state_in r.state)) →
      BackCall o (RowCall.row (Event.other_work a lent r back)) (RowCall.row (Event.other_work a' lent' r' back'))
  other_paint : {a a' : PaintCall} {plane plane' : List Float} {r r' : Painted} {back back' : List Float} →
      ((n : ℕ) → paint_verdict a plane ≡ refuse n → paint_verdict a' plane' ≡ refuse n → (given_or_refused r'.answer ≡ given_or_refused r.answer) × (state_in r'.state ≡ state_in r.state)) →
      BackCall o (RowCall.row (Event.other_paint a plane r back)) (RowCall.row (Event.other_paint a' plane' r' back'))
  other_list : {a a' : ListCall} {lent lent' : ListLent} {r r' : TileListed} {back back' : ListLent} →
      ((n : ℕ) → listing_verdict a lent ≡ refuse n → listing_verdict a' lent' ≡ refuse n → (given_or_refused r'.answer ≡ given_or_refused r.answer) × (state_in r'.state ≡ state_in r.state)) →
      BackCall o (RowCall.other_list a lent r back) (RowCall.other_list a' lent' r' back')
  other_decide : {a a' : DecideCall} {masks masks' : List Bool} {r r' : TileDecided} {back back' : List Bool} →
      (a ≡ a' → masks ≡ masks' → (decide_answer r'.answer ≡ decide_answer r.answer) × (r'.kept ≡ r.kept) × (back' ≡ back)) →
      BackCall o (RowCall.other_decide a masks r back) (RowCall.other_decide a' masks' r' back')

pub data BackCalls (o : OpenRow) : List RowCall → List RowCall → Type 0 where
  none : BackCalls o [] []
  next : {e e' : RowCall} {es es' : List RowCall} → BackCall o e e' → BackCalls o es es' → BackCalls o (e ∷ es) (e' ∷ es')

-- the opening: one state, and the carries negated
pub record BackOpening (s s' : State) (back back' : Columns) : Type 0 where
  pub state : s' ≡ s
  pub carries : carries_in s'.left back' ≡ map opposite_carry (carries_in s.left back)

-- ---- the claims. proofs/Backwards has them, and proofs/Both the last one

-- where lent room is alike, the two openings answer the same: one is accepted exactly where the other is
abbrev pub OpensBoth : Type 0
OpensBoth =
    (c : OpenCall) (lent lent' back back' : Columns) (r r' : Result RowState Refusal) →
    Mild cpu c.row →
    is_queue_short lent ≡ is_queue_short lent' →
    OpensRow (open_of c lent) r back →
    OpensRow (open_of (opposite_call c) lent') r' back' →
    opened_answer r' ≡ opened_answer r

abbrev pub Backwards : Type 0
Backwards =
    (c : OpenCall) (lent lent' back back' : Columns) (s s' : RowState) (es es' : List RowCall) (h h' : HeldAll) →
    Words c.row →
    Mild cpu c.row →
    OpensRow (open_of c lent) (Ok s) back →
    OpensRow (open_of (opposite_call c) lent') (Ok s') back' →
    RowCalls (open_row c) (held_with (held_first s back) []) es h →
    RowCalls (open_row (opposite_call c)) (held_with (held_first s' back') []) es' h' →
    AlikeCalls es es' →
    BackOpening (state_in s) (state_in s') back back' × BackCalls (open_row c) es es'

-- ---- the claim is not empty: after every accepted opening of such a row, every list of choices is that of two runs whose calls are alike, each call
-- with the verdict that is due of it

pub record RanBoth (c : OpenCall) (lent' back : Columns) (s : RowState) (cs : List CallChoice) : Type 0 where
  pub back' : Columns
  pub opens' : OpensRow (open_of (opposite_call c) lent') (Ok s) back'
  pub events : List RowCall
  pub events' : List RowCall
  pub after : HeldAll
  pub after' : HeldAll
  pub runs : RowCalls (open_row c) (held_with (held_first s back) []) events after
  pub runs' : RowCalls (open_row (opposite_call c)) (held_with (held_first s back') []) events' after'
  pub alike : AlikeCalls events events'
  pub dues : call_dues_of (open_row c) at_first events ≡ call_choices_due (open_row c) at_first cs

abbrev pub RunsBoth : Type 0
RunsBoth =
    (c : OpenCall) (lent lent' back : Columns) (s : RowState) (cs : List CallChoice) →
    Words c.row →
    Mild cpu c.row →
    is_queue_short lent ≡ is_queue_short lent' →
    OpensRow (open_of c lent) (Ok s) back →
    RanBoth c lent' back s cs
