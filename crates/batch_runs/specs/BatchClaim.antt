-- A batch in a run of demand 3: called with the state, the row, the table and the carries that the caller holds after any calls, it stands for calls that
-- go on with the run, and leaves what they leave, whatever it answers. So everything that the claim of row_statements says holds of each of them: it gives
-- what is due of it, worked from the whole row. A refused batch is the first tile's refused call, and leaves everything as it was.
use Rattle.std.specs.Prelude.{◌≡◌, ◌++◌, Ok}
use Rattle.laws.specs.Prelude.{List, ℕ, zero, suc}
use Rattle.segment_rows.specs.Rows.{Words}
use Rattle.row_statements.specs.Lent.{Columns}
use Rattle.row_statements.specs.Opening.{OpenCall, open_of, OpensRow}
use Rattle.row_statements.specs.Due.{OpenRow, at_first}
use Rattle.row_statements.specs.Run.{open_row, held_first, Held, Event, Run}
use Rattle.row_statements.specs.Claim.{AllRight}
use Rattle.row_statements.specs.declared.RowState.{RowState}
use Rattle.batch_statements.specs.BatchLent.{BatchLent, room_in}
use Rattle.batch_statements.specs.Batch.{BatchCall, batch_start, batch_of}
use Rattle.batch_runs.specs.BatchCalls.{TileCalls}

-- how it is called
pub record CalledIn (o : OpenRow) (h : Held) (c : BatchCall) (m : BatchLent) : Type 0 where
  pub state : c.state ≡ h.state
  pub row : c.over.row ≡ o.row
  pub table : c.over.table ≡ o.table
  pub queue : m.queue ≡ h.queue

-- the queue that the last worked tile took in: the other of the two; where no tile was worked, what was held
abbrev pub taken_by : ℕ → Columns → Columns → Columns
taken_by zero held other = held
taken_by (suc worked) held other = other

-- the calls, and what the caller then holds
pub record IsRun (o : OpenRow) (h : Held) (c : BatchCall) (m : BatchLent) : Type 0 where
  pub events : List Event
  pub after : Held
  pub runs : Run o h events after
  pub calls : TileCalls c.over (room_in c.over.keeps c.over.table.count m) c.tiles (batch_start c m) events (batch_of c m)
  pub state : after.state ≡ (batch_of c m).at.state
  pub queue : after.queue ≡ (batch_of c m).at.lent.queue
  pub taken : after.taken ≡ taken_by (batch_of c m).at.worked h.taken (batch_of c m).at.lent.other

pub record BatchRight (k : OpenCall) (es : List Event) (h : Held) (c : BatchCall) (m : BatchLent) : Type 0 where
  pub is_run : IsRun (open_row k) h c m
  pub right : AllRight (open_row k) at_first (es ++ is_run.events)

abbrev pub BatchClaim : Type 0
BatchClaim =
    (k : OpenCall) (lent back : Columns) (s : RowState) (es : List Event) (h : Held) (c : BatchCall) (m : BatchLent) →
    Words k.row →
    OpensRow (open_of k lent) (Ok s) back →
    Run (open_row k) (held_first s back) es h →
    CalledIn (open_row k) h c m →
    BatchRight k es h c m
