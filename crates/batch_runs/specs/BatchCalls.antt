-- The public calls that a batch stands for: the work on each tile, and where it is painted the painting of each shown layer, ascending. What is noted is
-- read from what the calls answered and left in lent memory, as a caller reads it. proofs/BatchTiles has that a batch in a run is such calls.
use Rattle.std.specs.Prelude.{◌≡◌, ◌∷◌, ◌++◌, ◌+◌, ◌*◌}
use Rattle.laws.specs.Prelude.{true, false, List, [], ℕ, zero, suc, leb, Float, ℤ, sets, refused, given}
use Rattle.refusals.specs.Refusal.{given_or_refused}
use Rattle.row_statements.specs.Lent.{Columns}
use Rattle.row_statements.specs.State.{state_in}
use Rattle.row_statements.specs.TileWork.{WorkLent, WorkGiven, TileAnswer, work_answer}
use Rattle.row_statements.specs.Due.{WorkChoice, PaintChoice}
use Rattle.row_statements.specs.Run.{Event}
use Rattle.row_statements.specs.declared.TileWorked.{TileWorked}
use Rattle.row_statements.specs.declared.Painted.{Painted}
use Rattle.row_lines.specs.Calls.{painted_by}
use Rattle.batch_statements.specs.BatchLent.{kept_at, plane_at, has_room}
use Rattle.batch_statements.specs.Batch.{BatchRow, BatchAt, BatchGiven, asked, row_end, no_room, next_refused, ended_at, PlanesAt, own_list, turn_by}
use Rattle.batch_statements.specs.declared.Room as room

-- ---- what a caller chooses

-- for the work on the tile where the batch stands
abbrev pub works_here : BatchRow → BatchAt → WorkChoice
works_here c s =
    record {
      tile = s.tile;
      kept = kept_at c.keeps s.lent.kept s.worked;
      clear = c.clear;
      previous = c.previous;
      queue = s.lent.queue;
      lent = record { queue = s.lent.other; list = own_list c };
    }

-- for the painting of a layer of the tile that took in the queue, into the next plane
abbrev pub paints_here : ℤ → Columns → PlanesAt → ℕ → PaintChoice
paints_here tile queue p id = record { tile = tile; layer = id; queue = queue; plane = plane_at p.used p.planes }

-- ---- what is noted

-- what a work gave, as it was answered and left
abbrev pub work_given_as : TileWorked → WorkLent → WorkGiven
work_given_as r back = record { answer = work_answer r.answer; state = state_in r.state; kept = r.kept; lent = back }

abbrev pub painted_as : Painted → List Float → ℕ → ℕ → PlanesAt → PlanesAt
painted_as r back id mark p =
    record { state = state_in r.state; used = p.used + 1; planes = sets p.planes (p.used * 256) back; painted = sets p.painted (p.used * 2) (id ∷ mark ∷ []) }

-- ---- the calls

-- layers painted in turn, each accepted: the planes before and after them
pub data PaintCalls (tile : ℤ) (queue : Columns) : PlanesAt → List ℕ → List Event → PlanesAt → Type 0 where
  none : {p : PlanesAt} → PaintCalls tile queue p [] [] p
  next : {p q : PlanesAt} {id mark : ℕ} {ids : List ℕ} {r : Painted} {back : List Float} {es : List Event} →
      given_or_refused r.answer ≡ given mark →
      PaintCalls tile queue (painted_as r back id mark p) ids es q →
      PaintCalls tile queue p (id ∷ ids) (Event.paint (paints_here tile queue p id) r back ∷ es) q

-- the planes that the paintings of a tile leave are those that its definition tells
abbrev pub start_planes : BatchAt → TileWorked → PlanesAt
start_planes s r = record { state = state_in r.state; used = s.used; planes = s.lent.planes; painted = s.lent.painted }

-- tile after tile, k that are left, in the room that is lent, up to the first that is refused; and how that ends
pub data TileCalls (c : BatchRow) (r : room.Room) : ℕ → BatchAt → List Event → BatchGiven → Type 0 where
  none : {s : BatchAt} → TileCalls c r zero s [] (ended_at s asked)
  row_end_step : {k : ℕ} {s : BatchAt} → leb s.state.to s.state.next ≡ true → TileCalls c r (suc k) s [] (ended_at s row_end)
  full : {k : ℕ} {s : BatchAt} → leb s.state.to s.state.next ≡ false → has_room r s.worked s.used ≡ false → TileCalls c r (suc k) s [] (ended_at s no_room)
  turned_down : {k number : ℕ} {s : BatchAt} {w : TileWorked} {back : WorkLent} →
      leb s.state.to s.state.next ≡ false →
      has_room r s.worked s.used ≡ true →
      work_answer w.answer ≡ refused number →
      TileCalls c r (suc k) s (Event.work (works_here c s) w back ∷ []) (ended_at s (next_refused number))
  next : {k : ℕ} {s : BatchAt} {w : TileWorked} {back : WorkLent} {t : TileAnswer} {p : PlanesAt} {ps es : List Event} {g : BatchGiven} →
      leb s.state.to s.state.next ≡ false →
      has_room r s.worked s.used ≡ true →
      work_answer w.answer ≡ given t →
      PaintCalls s.tile s.lent.queue (start_planes s w) (painted_by t back) ps p →
      TileCalls c r k (turn_by c (given t) s (work_given_as w back)).at es g →
      TileCalls c r (suc k) s (Event.work (works_here c s) w back ∷ (ps ++ es)) g
