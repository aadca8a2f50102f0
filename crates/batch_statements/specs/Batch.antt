-- A batch of tiles as a public operation: the succession of the calls on tile after tile, as many as are asked for, while the row has tiles and there is
-- room: the work on the tile, and where it is decided 'paint' the painting of each shown layer, ascending, each into the next plane; where it is solid the
-- layers that it mixes are noted. Every tile is told by what the public operations give (`work_of`, `paint_of`), each called with what the one before it left,
-- so that a batch has no verdict of its own: it is refused where its first tile is, by that number, and nothing is worked or written then; else it is accepted,
-- and tells why it ended. Where it calls nothing (no tile is asked for, none is left, or there is no room for one), it judges nothing.
use Rattle.std.specs.Prelude.{◌≡◌, ◌∷◌, ◌+◌, ◌*◌, Option, Result, Ok, Err}
use Rattle.laws.specs.Prelude.{Bool, true, false, not, cond, List, [], ℕ, zero, suc, leb, Float, ℤ, pos, length, replicate, sets}
use Rattle.laws.specs.Prelude.{Answer, refused, given, plus}
use Rattle.refusals.specs.declared.Refusal.{Refusal}
use Rattle.refusals.specs.Refusal.{Judgement, pass, refuse, number_of}
use Rattle.styling.specs.declared.Color.{Color}
use Rattle.row_statements.specs.Lent.{Columns, ListColumns, LentTable}
use Rattle.row_statements.specs.State.{State, state_in}
use Rattle.row_statements.specs.TileWork.{WorkCall, WorkGiven, TileAnswer, work_call, work_lent, work_of}
use Rattle.row_statements.specs.Painting.{PaintGiven, paint_call, paint_of}
use Rattle.row_lines.specs.Calls.{shown_by, painted_by}
use Rattle.batch_statements.specs.BatchLent.{BatchLent, sided, room_in, has_room, kept_at, kept_over, tile_numbers, bottoms_over, plane_at, mixed_of, words_at, mixes_from}
use Rattle.batch_statements.specs.declared.Batch as batch
use Rattle.batch_statements.specs.declared.End as end
use Rattle.batch_statements.specs.declared.End.TheVariants as batch-end
use Rattle.batch_statements.specs.declared.Room as room

-- what all tiles of a batch share; `keeps` says whether cached tiles are lent
pub record BatchRow : Type 0 where
  pub row : List ℕ
  pub table : LentTable
  pub keeps : Bool
  pub clear : Color
  pub previous : Option Color

abbrev pub batch_row : List ℕ → LentTable → Bool → Color → Option Color → BatchRow
batch_row row table keeps clear previous = record { row = row; table = table; keeps = keeps; clear = clear; previous = previous }

-- where it stands between two tiles: the state, the next tile, whether the first queue holds the carries, how many tiles are worked and planes used, and
-- the lent memory
pub record BatchAt : Type 0 where
  pub state : State
  pub tile : ℤ
  pub first : Bool
  pub worked : ℕ
  pub used : ℕ
  pub lent : BatchLent

-- why it ended: all tiles that were asked for are worked, the row has no more, there is no room for a further one, or the next one would be refused
pub data BatchEnd : Type 0 where
  asked : BatchEnd
  row_end : BatchEnd
  no_room : BatchEnd
  next_refused : (number : ℕ) → BatchEnd

pub record BatchGiven : Type 0 where
  pub at : BatchAt
  pub end : BatchEnd

abbrev pub ended_at : BatchAt → BatchEnd → BatchGiven
ended_at s e = record { at = s; end = e }

-- where it stands after a tile, and a pass, or the number by which the tile is refused
pub record TurnGiven : Type 0 where
  pub at : BatchAt
  pub verdict : Judgement

-- ---- the shown layers of a tile, painted one after the other

pub record PlanesAt : Type 0 where
  pub state : State
  pub used : ℕ
  pub planes : List Float
  pub painted : List ℕ

-- after the painting of a layer: the next plane, its layer id and its mark. None is refused (tile_batch/proofs/Paintings)
abbrev pub painted_past : Answer ℕ → ℕ → PaintGiven → PlanesAt → PlanesAt
painted_past (refused number) id g p = p
painted_past (given mark) id g p =
    record {
      state = g.state;
      used = p.used + 1;
      planes = sets p.planes (p.used * 256) g.plane;
      painted = sets p.painted (p.used * 2) (id ∷ mark ∷ []);
    }

module _ (c : BatchRow) where
  -- of a tile that took in the queue
  abbrev pub paint_at : ℤ → Columns → PlanesAt → ℕ → PaintGiven
  paint_at tile queue p id = paint_of (paint_call p.state tile id c.row c.table queue) (plane_at p.used p.planes)

  unfoldable pub paints_from : ℤ → Columns → PlanesAt → List ℕ → PlanesAt
  paints_from tile queue p [] = p
  paints_from tile queue p (id ∷ ids) = let g = paint_at tile queue p id in paints_from tile queue (painted_past g.answer id g p) ids

  -- ---- a tile

  -- the list is the operation's own
  abbrev pub own_list : ListColumns
  own_list = record { ids = replicate 256 0; covers = replicate 4096 (pos 0); flags = replicate 512 false; unmasked = replicate 256 false }

  abbrev pub call_at : BatchAt → WorkCall
  call_at s = work_call s.state s.tile c.row c.table (kept_at c.keeps s.lent.kept s.worked) c.clear c.previous s.lent.queue

  abbrev pub work_at : BatchAt → WorkGiven
  work_at s = work_of (call_at s) (work_lent s.lent.other own_list)

  -- its shown layers painted, those that it mixes noted
  abbrev pub paints_past : BatchAt → TileAnswer → WorkGiven → PlanesAt
  paints_past s t g =
      paints_from s.tile s.lent.queue (record { state = g.state; used = s.used; planes = s.lent.planes; painted = s.lent.painted }) (painted_by t g.lent)

  abbrev pub planes_past : BatchAt → TileAnswer → WorkGiven → PlanesAt
  planes_past s t g =
      let p = paints_past s t g in
      let w = mixes_from (words_at p.used p.painted) (mixed_of t.decision (shown_by t g.lent)) in
      record { state = p.state; used = w.used; planes = p.planes; painted = w.painted }

  -- after an accepted work and its paintings: the other queue holds the carries now
  abbrev pub lent_past : BatchAt → TileAnswer → WorkGiven → PlanesAt → BatchLent
  lent_past s t g p =
      record {
        queue = g.lent.queue;
        other = s.lent.queue;
        kept = kept_over c.keeps s.lent.kept s.worked g.kept;
        told = sets s.lent.told (s.worked * 6) (tile_numbers t (length (shown_by t g.lent)) g.state.left);
        bottoms = bottoms_over t.decision s.worked s.lent.bottoms;
        planes = p.planes;
        painted = p.painted;
      }

  abbrev pub tile_past : BatchAt → TileAnswer → WorkGiven → BatchAt
  tile_past s t g =
      let p = planes_past s t g in
      record { state = p.state; tile = pos (plus s.tile + 1); first = not s.first; worked = s.worked + 1; used = p.used; lent = lent_past s t g p }

  abbrev pub turn_by : Answer TileAnswer → BatchAt → WorkGiven → TurnGiven
  turn_by (refused number) s g = record { at = s; verdict = refuse number }
  turn_by (given t) s g = record { at = tile_past s t g; verdict = pass }

  unfoldable pub turn_of : BatchAt → TurnGiven
  turn_of s = turn_by (work_at s).answer s (work_at s)

  -- ---- tile after tile, k that are left, in the room that is lent

  abbrev pub next_by : Judgement → BatchAt → BatchGiven → BatchGiven
  next_by (refuse number) s rest = ended_at s (next_refused number)
  next_by pass s rest = rest

  unfoldable pub tiles_from : room.Room → ℕ → BatchAt → BatchGiven
  tiles_from r zero s = ended_at s asked
  tiles_from r (suc k) s =
      cond (leb s.state.to s.state.next)
      (ended_at s row_end)
      (cond (has_room r s.worked s.used) (next_by (turn_of s).verdict s (tiles_from r k (turn_of s).at)) (ended_at s no_room))

-- ---- the batch

-- what it is called with, beside the memory that it may write: the state, the first tile, and how many tiles are asked for
pub record BatchCall : Type 0 where
  pub state : State
  pub tile : ℤ
  pub tiles : ℕ
  pub over : BatchRow

abbrev pub batch_call : State → ℤ → ℕ → BatchRow → BatchCall
batch_call state tile tiles over = record { state = state; tile = tile; tiles = tiles; over = over }

abbrev pub batch_start : BatchCall → BatchLent → BatchAt
batch_start c m = record { state = c.state; tile = c.tile; first = true; worked = 0; used = 0; lent = m }

unfoldable pub batch_of : BatchCall → BatchLent → BatchGiven
batch_of c m = tiles_from c.over (room_in c.over.keeps c.over.table.count m) c.tiles (batch_start c m)

-- what it answers: where no tile is worked and the first one is refused, that refusal; else why it ended
abbrev pub refused_at : ℕ → ℕ → Answer BatchEnd
refused_at zero number = refused number
refused_at (suc worked) number = given (next_refused number)

abbrev pub answer_of : ℕ → BatchEnd → Answer BatchEnd
answer_of worked asked = given asked
answer_of worked row_end = given row_end
answer_of worked no_room = given no_room
answer_of worked (next_refused number) = refused_at worked number

abbrev pub batch_answer : BatchGiven → Answer BatchEnd
batch_answer g = answer_of g.at.worked g.end

-- ---- the promise: the answer, and the lent memory as it lies

-- the cases of the code's answer
abbrev pub end_in : end.End → BatchEnd
end_in batch-end.Asked = asked
end_in batch-end.RowEnd = row_end
end_in batch-end.NoRoom = no_room
end_in (batch-end.NextRefused r) = next_refused (number_of r)

abbrev pub answer_in : Result end.End Refusal → Answer BatchEnd
answer_in (Err r) = refused (number_of r)
answer_in (Ok e) = given (end_in e)

pub record GivesBatch (g : BatchGiven) (r : batch.Batch) (back : BatchLent) : Type 0 where
  pub state : state_in r.state ≡ g.at.state
  pub worked : r.worked ≡ g.at.worked
  pub used : r.used ≡ g.at.used
  pub first : r.first ≡ g.at.first
  pub answer : answer_in r.answer ≡ batch_answer g
  pub lent_is : back ≡ sided g.at.first g.at.lent

-- ---- demand 1, as a law over the definition (proofs/Refused): a refused batch leaves the state and every lent slice as they were, and its number is that by
-- which the first tile's own call is refused

abbrev pub BatchRefused : Type 0
BatchRefused =
    (c : BatchCall) (m : BatchLent) (number : ℕ) →
    batch_answer (batch_of c m) ≡ refused number →
    ((batch_of c m).at ≡ batch_start c m) × ((work_at c.over (batch_start c m)).answer ≡ refused number)
