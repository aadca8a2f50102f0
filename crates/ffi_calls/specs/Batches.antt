-- Demand 3 for callers of the batch export: an accepted opening and any list of batches, works and paintings after it, told by numbers and lent slices
-- alone; so also a batch and then paintings of its last tile by single calls. The premise of each batch is the export's own contract, at the numbers that
-- the call before it left. Every batch stands for works and paintings, each of which gives what is due of it (batch_runs/specs/BatchCalls,
-- row_statements/specs/Claim); a refused one is the first tile's refused work, tells its number, and all is as it was. A caller that sets the five numbers to
-- 0 before a batch finds by the third which queue holds the carries, however the batch ended.
-- proofs/Batches proves it.
use Rattle.std.specs.Prelude.{◌≡◌, ◌∷◌, ◌*◌, ◌≤◌, ◌<◌, Option}
use Rattle.laws.specs.Prelude.{true, false, List, [], ℕ, zero, suc, leb, get_or, Answer, refused, given}
use Rattle.refusals.specs.Refusal.{pass}
use Rattle.segment_rows.specs.Rows.{Words}
use Rattle.styling.specs.declared.Color.{Color}
use Rattle.row_statements.specs.Lent.{Columns}
use Rattle.row_statements.specs.Opening.{OpenCall, open_of}
use Rattle.row_statements.specs.TileWork.{work_lent, args_verdict}
use Rattle.row_statements.specs.Due.{OpenRow, Past, at_first}
use Rattle.row_statements.specs.Run.{open_row, Event}
use Rattle.row_statements.specs.Claim.{TileFacts, past_after, AllRight}
use Rattle.batch_statements.specs.BatchLent.{BatchLent, room_in, has_room}
use Rattle.batch_statements.specs.Batch.{BatchEnd, BatchCall, batch_start, batch_of, batch_answer, own_list, call_at}
use Rattle.batch_runs.specs.BatchCalls.{TileCalls}
use Rattle.ffi_numbers.specs.Rows.{StateNumbers, state_from, OpenTold}
use Rattle.ffi_batch.specs.Batches.{BatchNumbers, batch_numbers, BatchTold}
use Rattle.ffi_calls.specs.Calls.{HeldNumbers, held_opened, NumbersTold, Call, RightTold, past_told}

-- ---- what the caller holds after a batch

-- the queue that the third number names
abbrev pub queue_named : ℕ → BatchLent → Columns
queue_named zero back = back.queue
queue_named (suc n) back = back.other

-- the queue that the last tile took in, by the first number and the third: the other of the two; where no tile was worked, what was held
abbrev pub taken_named : ℕ → ℕ → Columns → BatchLent → Columns
taken_named zero n held back = held
taken_named (suc worked) zero held back = back.other
taken_named (suc worked) (suc n) held back = back.queue

abbrev pub held_batch : HeldNumbers → BatchNumbers → BatchLent → HeldNumbers
held_batch k new back =
    record {
      words = new.words;
      counts = new.counts;
      queue = queue_named (get_or new.done 2 0) back;
      taken = taken_named (get_or new.done 0 0) (get_or new.done 2 0) k.taken back;
    }

-- ---- batches as they went: what was asked for and lent, the number, and what the lent numbers and the lent memory are then

pub record BatchMade : Type 0 where
  pub call : BatchCall
  pub lent : BatchLent
  pub old : BatchNumbers
  pub number : ℕ
  pub new : BatchNumbers
  pub back : BatchLent

-- made with the row, the table, the numbers and the queue that the caller holds
pub record MadeWith (o : OpenRow) (k : HeldNumbers) (b : BatchMade) : Type 0 where
  pub state : b.call.state ≡ state_from k.words k.counts
  pub row : b.call.over.row ≡ o.row
  pub table : b.call.over.table ≡ o.table
  pub queue : b.lent.queue ≡ k.queue
  pub numbers : b.old ≡ batch_numbers k.words k.counts (0 ∷ 0 ∷ 0 ∷ 0 ∷ 0 ∷ [])
  pub told : BatchTold (batch_of b.call b.lent) b.old b.number b.new b.back

-- a batch, or a work or a painting by itself (specs/Calls)
pub data RowTold : Type 0 where
  batch : (b : BatchMade) → RowTold
  call : (t : NumbersTold) → RowTold

pub data Batches (o : OpenRow) : HeldNumbers → List RowTold → HeldNumbers → Type 0 where
  none : {k : HeldNumbers} → Batches o k [] k
  batch : {k k' : HeldNumbers} {b : BatchMade} {ts : List RowTold} → MadeWith o k b → Batches o (held_batch k b.new b.back) ts k' → Batches o k (RowTold.batch b ∷ ts) k'
  call : {k k' k'' : HeldNumbers} {t : NumbersTold} {ts : List RowTold} → Call o k t k' → Batches o k' ts k'' → Batches o k (RowTold.call t ∷ ts) k''

-- ---- what is right of them

-- what calls tell of the past, one after the other
abbrev pub past_events : OpenRow → List Event → Past → Past
past_events o [] p = p
past_events o (e ∷ es) p = past_events o es (past_after o e p)

-- what is told of a batch beside its calls, by its answer: a refused one tells its number and leaves all as it was, another tells 0
abbrev pub TellsAnswer : Answer BatchEnd → BatchMade → Type 0
TellsAnswer (refused n) b = (b.number ≡ n) × ((b.new ≡ b.old) × (b.back ≡ b.lent))
TellsAnswer (given end) b = b.number ≡ 0

-- the calls that it stands for
pub record RightBatch (o : OpenRow) (p : Past) (b : BatchMade) : Type 0 where
  pub events : List Event
  pub calls : TileCalls b.call.over (room_in b.call.over.keeps b.call.over.table.count b.lent) b.call.tiles (batch_start b.call b.lent) events (batch_of b.call b.lent)
  pub right : AllRight o p events
  pub tells : TellsAnswer (batch_answer (batch_of b.call b.lent)) b

pub data AllBatches (o : OpenRow) : Past → List RowTold → Type 0 where
  none : {p : Past} → AllBatches o p []
  batch : {p : Past} {b : BatchMade} {ts : List RowTold} (u : RightBatch o p b) → AllBatches o (past_events o u.events p) ts → AllBatches o p (RowTold.batch b ∷ ts)
  call : {p : Past} {t : NumbersTold} {ts : List RowTold} → RightTold o p t → AllBatches o (past_told o t p) ts → AllBatches o p (RowTold.call t ∷ ts)

-- ---- the claim; what the row alone says of every tile stands beside it

abbrev pub BatchesClaim : Type 0
BatchesClaim =
    (c : OpenCall) (lent back : Columns) (old new : StateNumbers) (ts : List RowTold) (k : HeldNumbers) →
    Words c.row →
    OpenTold (open_of c lent) old 0 new back →
    Batches (open_row c) (held_opened new back) ts k →
    ((n : ℕ) → TileFacts (open_row c) n) × AllBatches (open_row c) at_first ts

-- ---- it is not empty: after an opening that left a tile, any number of tiles can be asked for, there is room for all of them, and 1 to 6 do not refuse the
-- first

pub record PassingBatch (o : OpenRow) (k : HeldNumbers) (tiles : ℕ) : Type 0 where
  pub made : BatchMade
  pub with_held : MadeWith o k made
  pub asks : made.call.tiles ≡ tiles
  pub left : leb made.call.state.to made.call.state.next ≡ false
  pub room : (worked used : ℕ) → worked < tiles → used ≤ worked * 256 → has_room (room_in made.call.over.keeps made.call.over.table.count made.lent) worked used ≡ true
  pub passes : args_verdict (call_at made.call.over (batch_start made.call made.lent)) (work_lent made.lent.other (own_list made.call.over)) ≡ pass

abbrev pub BatchesExist : Type 0
BatchesExist =
    (c : OpenCall) (lent back : Columns) (old new : StateNumbers) (tiles : ℕ) (clear : Color) (previous : Option Color) →
    Words c.row →
    OpenTold (open_of c lent) old 0 new back →
    (open_row c).from < (open_row c).to →
    PassingBatch (open_row c) (held_opened new back) tiles
