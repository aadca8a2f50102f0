-- Demand 3 for callers of the exports: an accepted opening and any list of tile works and paintings after it, told by numbers and lent slices alone.
-- Every call tells what is due of it (row_statements/specs/Due). The premise of each call is the export's own contract, at the numbers that the call
-- before it left. proofs/Calls proves it.
use Rattle.std.specs.Prelude.{◌∷◌}
use Rattle.laws.specs.Prelude.{List, [], ℕ, zero, suc, Float}
use Rattle.segment_rows.specs.Rows.{Words}
use Rattle.row_statements.specs.Lent.{Columns}
use Rattle.row_statements.specs.Opening.{OpenCall, open_of}
use Rattle.row_statements.specs.TileWork.{WorkLent, work_of}
use Rattle.row_statements.specs.Painting.{paint_of}
use Rattle.row_statements.specs.Due.{OpenRow, Past, at_first, WorkChoice, work_due_verdict, work_due, past_work, PaintChoice, paint_due_verdict, paint_due, past_paint}
use Rattle.row_statements.specs.Run.{open_row, Held, SameCarries, work_on, paint_onto}
use Rattle.ffi_numbers.specs.Rows.{StateNumbers, state_from, OpenTold}
use Rattle.ffi.specs.Work.{WorkNumbers, WorkTold}
use Rattle.ffi.specs.Painting.{PaintNumbers, PaintTold}

-- ---- what the caller holds between calls: the state's numbers, the queue that the last accepted work left, and the one that it took in

pub record HeldNumbers : Type 0 where
  pub words : List ℕ
  pub counts : List ℕ
  pub queue : Columns
  pub taken : Columns

abbrev pub held_from : HeldNumbers → Held
held_from k = record { state = state_from k.words k.counts; queue = k.queue; taken = k.taken }

abbrev pub held_opened : StateNumbers → Columns → HeldNumbers
held_opened n back = record { words = n.words; counts = n.counts; queue = back; taken = back }

-- after a work, by its number: 0 says that it is accepted
abbrev pub held_worked : ℕ → HeldNumbers → WorkNumbers → Columns → WorkLent → HeldNumbers
held_worked zero k new queue back = record { words = new.words; counts = new.counts; queue = back.queue; taken = queue }
held_worked (suc n) k new queue back = record { words = new.words; counts = new.counts; queue = k.queue; taken = k.taken }

-- ---- calls as they went: what was chosen and lent, the number, and what the lent numbers and lists are then

pub data NumbersTold : Type 0 where
  work : (c : WorkChoice) (old : WorkNumbers) (r : ℕ) (new : WorkNumbers) (back : WorkLent) → NumbersTold
  paint : (c : PaintChoice) (old : PaintNumbers) (r : ℕ) (new : PaintNumbers) (back : List Float) → NumbersTold

-- a call is made with the numbers that the caller holds; of the others it lends any
pub data Call (o : OpenRow) : HeldNumbers → NumbersTold → HeldNumbers → Type 0 where
  work : {k : HeldNumbers} {c : WorkChoice} {bytes told : List ℕ} {bottom : List Float} {r : ℕ} {new : WorkNumbers} {back : WorkLent} →
      SameCarries (held_from k).state.left k.queue c.queue →
      WorkTold (work_of (work_on o (held_from k) c) c.lent) (record { words = k.words; counts = k.counts; kept = bytes; told = told; bottom = bottom }) r new back →
      Call o k (NumbersTold.work c (record { words = k.words; counts = k.counts; kept = bytes; told = told; bottom = bottom }) r new back) (held_worked r k new c.queue back)
  paint : {k : HeldNumbers} {c : PaintChoice} {mark r : ℕ} {new : PaintNumbers} {back : List Float} →
      SameCarries (held_from k).state.taken k.taken c.queue →
      PaintTold (paint_of (paint_onto o (held_from k) c) c.plane) (record { words = k.words; counts = k.counts; mark = mark }) r new back →
      Call o k (NumbersTold.paint c (record { words = k.words; counts = k.counts; mark = mark }) r new back) (record { words = new.words; counts = new.counts; queue = k.queue; taken = k.taken })

pub data Calls (o : OpenRow) : HeldNumbers → List NumbersTold → HeldNumbers → Type 0 where
  none : {k : HeldNumbers} → Calls o k [] k
  next : {k k' k'' : HeldNumbers} {t : NumbersTold} {ts : List NumbersTold} → Call o k t k' → Calls o k' ts k'' → Calls o k (t ∷ ts) k''

-- ---- what is right of them: the numbers and the lent lists are those of what is due

abbrev pub RightTold : OpenRow → Past → NumbersTold → Type 0
RightTold o p (NumbersTold.work c old r new back) = WorkTold (work_due o p c) old r new back
RightTold o p (NumbersTold.paint c old r new back) = PaintTold (paint_due o p c) old r new back

abbrev pub past_told : OpenRow → NumbersTold → Past → Past
past_told o (NumbersTold.work c old r new back) p = past_work (work_due_verdict o p.tiles c) p
past_told o (NumbersTold.paint c old r new back) p = past_paint (paint_due_verdict o p.tiles c) o c.layer p

abbrev pub AllTold : OpenRow → Past → List NumbersTold → Type 0
AllTold o p [] = Unit {0}
AllTold o p (t ∷ ts) = RightTold o p t × AllTold o (past_told o t p) ts

-- ---- the claim

abbrev pub CallsClaim : Type 0
CallsClaim =
    (c : OpenCall) (lent back : Columns) (old new : StateNumbers) (ts : List NumbersTold) (k : HeldNumbers) →
    Words c.row →
    OpenTold (open_of c lent) old 0 new back →
    Calls (open_row c) (held_opened new back) ts k →
    AllTold (open_row c) at_first ts
