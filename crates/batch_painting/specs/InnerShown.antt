-- What the walk over a tile's shown layers asks and gives: each is counted and, where the tile is painted, painted into the next plane.
-- tile_batch/proofs has that these are the paintings of batch_statements/specs/Batch.
use Rattle.std.specs.Prelude.{◌≡◌, ◌∷◌, ◌+◌, ◌*◌, ◌≤◌}
use Rattle.laws.specs.Prelude.{Bool, true, false, cond, List, [], None, ℕ, Float, ℤ, length, sets, over}
use Rattle.styling.specs.declared.Layer.{Layer}
use Rattle.queue_statements.specs.Queue.{Carry, queue_of}
use Rattle.row_statements.specs.State.{State, state_in, with_clip}
use Rattle.row_statements.specs.Painting.{PaintSays, paint_says}
use Rattle.listed_painting.specs.InnerWalk.{WalkHolds, id_in}
use Rattle.batch_statements.specs.BatchLent.{plane_at}
use Rattle.batch_statements.specs.Batch.{PlanesAt}
use Rattle.batch_painting.specs.declared.Planes.{Planes}
use Rattle.batch_painting.specs.declared.PlaneWalk.{PlaneWalk}

-- the planes so far, and how many layers were shown
pub record WalkAt : Type 0 where
  pub at : PlanesAt
  pub shown : ℕ

abbrev pub walk_at : Planes → List Float → List ℕ → WalkAt
walk_at p planes painted = record { at = record { state = state_in p.state; used = p.used; planes = planes; painted = painted }; shown = p.shown }

-- a layer painted into the next plane, by what it says
abbrev pub paint_step : PaintSays → ℕ → PlanesAt → PlanesAt
paint_step says id p =
    record {
      state = with_clip p.state says.clip;
      used = p.used + 1;
      planes = sets p.planes (p.used * 256) (over says.plane (plane_at p.used p.planes));
      painted = sets p.painted (p.used * 2) (id ∷ says.mark ∷ []);
    }

abbrev pub walk_by : Bool → PaintSays → ℕ → WalkAt → WalkAt
walk_by true says id x = record { at = paint_step says id x.at; shown = x.shown + 1 }
walk_by false says id x = record { at = x.at; shown = x.shown + 1 }

module _ (paints : Bool) (table : List Layer) (queue : List Carry) (part : List ℕ) where
  unfoldable pub walk_next : WalkAt → ℕ → WalkAt
  walk_next x id = walk_by paints (paint_says table queue part id x.at.state.clip) id x

  unfoldable pub walk_from : WalkAt → List ℕ → WalkAt
  walk_from x [] = x
  walk_from x (id ∷ ids) = walk_from (walk_next x id) ids

-- room for n more planes
pub record PlaneRoom (used n : ℕ) (planes : List Float) (painted : List ℕ) : Type 0 where
  pub planes_long : (used + n) * 256 ≤ length planes
  pub painted_long : (used + n) * 2 ≤ length painted

-- ---- the walk of the code, which holds the clip alone of a state

abbrev pub walk_on : State → PlaneWalk → List Float → List ℕ → WalkAt
walk_on base t planes painted =
    record { at = record { state = with_clip base t.walk.clip; used = t.used; planes = planes; painted = painted }; shown = t.shown }

-- the next layer of a painted tile: the walk is past it, and it is painted into the next plane where it is not masked off
pub record EntryPainted (unmasked : Bool) (table : List Layer) (n : ℕ) (ids : List ℕ) (covers : List ℤ) (part : List ℕ) (t : PlaneWalk) (planes : List Float) (painted : List ℕ) (r : PlaneWalk) (planes' : List Float) (painted' : List ℕ) : Type 0 where
  pub holds : WalkHolds table n ids covers part r.walk
  pub one_more : r.walk.passed ≡ t.walk.passed + 1
  pub walk_is : (base : State) → walk_on base r planes' painted' ≡ cond unmasked (walk_next true table (queue_of n ids covers) part (walk_on base t planes painted) (id_in (queue_of n ids covers) part t.walk.passed)) (walk_on base t planes painted)
  pub used_few : r.used ≤ t.used + 1
  pub shown_few : r.shown ≤ t.shown + 1

-- the layers `ids` of a painted tile, in whatever state the painter has no clip
pub record AllPainted (table : List Layer) (queue : List Carry) (part ids : List ℕ) (used : ℕ) (planes : List Float) (painted : List ℕ) (r : PlaneWalk) (planes' : List Float) (painted' : List ℕ) : Type 0 where
  pub walk_is : (base : State) → walk_on base r planes' painted' ≡ walk_from true table queue part (record { at = record { state = with_clip base None; used = used; planes = planes; painted = painted }; shown = 0 }) ids
