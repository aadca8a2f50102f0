-- A run of one layer's row: an accepted opening, and any list of works and ranges after it, refused ones included, as the calls went; and the claim about it:
-- every call gives what is due of it (specs/LayerDue), which is worked from the whole row, never from a returned answer or state. Beside it, what the
-- row alone says of every tile. proofs/Runs proves it; specs/LayerExample has a run that meets its premises.
use Rattle.std.specs.Prelude.{◌≡◌, ◌∷◌, ◌+◌}
use Rattle.laws.specs.Prelude.{List, [], ℕ, suc, Float, pos, length}
use Rattle.refusals.specs.Refusal.{pass, refuse}
use Rattle.pixel_segment.specs.Field.{gpu}
use Rattle.cover_statements.specs.WholeRow.{FromRow}
use Rattle.layer_row_gpu.specs.LayerState.{LayerState, layer_state_in}
use Rattle.layer_row_gpu.specs.OpenLayer.{LayerCall, layer_rule, call_verdict_of, OpensLayer}
use Rattle.layer_row_gpu.specs.WorkLayer.{LayerChoice, work_layer_verdict, LayerGiven, work_layer_of, WorksLayer}
use Rattle.layer_row_gpu.specs.WorkTiles.{TilesChoice, tiles_verdict, TilesGiven, work_tiles_of, WorksTiles}
use Rattle.layer_row_gpu.specs.LayerDue.{layer_tile_on, cover_on, layer_state_on, layer_due_verdict, work_layer_due, tiles_after, work_tiles_due}
use Rattle.layer_row_gpu.specs.declared.OpenedLayer.{OpenedLayer}
use Rattle.layer_row_gpu.specs.declared.WorkedLayer.{WorkedLayer}
use Rattle.layer_row_gpu.specs.declared.tiles.WorkedTiles.{WorkedTiles}

-- a call as it went: what the caller chose, what came back, and what then stood in the plane; of one tile, and of a range
pub record WorkEvent : Type 0 where
  pub choice : LayerChoice
  pub result : WorkedLayer
  pub back : List Float

pub record RangeEvent : Type 0 where
  pub choice : TilesChoice
  pub result : WorkedTiles
  pub back : List Float

pub data LayerEvent : Type 0 where
  one : (e : WorkEvent) → LayerEvent
  range : (e : RangeEvent) → LayerEvent

-- a call that gave this
abbrev pub RightLayer : LayerGiven → WorkEvent → Type 0
RightLayer g e = WorksLayer g e.result e.back

abbrev pub RightRange : TilesGiven → RangeEvent → Type 0
RightRange g e = WorksTiles g e.result e.back

-- its premise is the operation's own contract, at the state that the last call returned
abbrev pub Went : LayerState → WorkEvent → Type 0
Went s e = RightLayer (work_layer_of s e.choice) e

abbrev pub RangeWent : LayerState → RangeEvent → Type 0
RangeWent s e = RightRange (work_tiles_of s e.choice) e

-- a call lends the row that was opened; one that is turned down may lend another
pub data LayerStep (c : LayerCall) : LayerState → LayerEvent → LayerState → Type 0 where
  work : {s : LayerState} {e : WorkEvent} → e.choice.row ≡ c.row → Went s e → LayerStep c s (LayerEvent.one e) (layer_state_in e.result.state)
  other : {s : LayerState} {e : WorkEvent} {number : ℕ} → work_layer_verdict s e.choice.tile e.choice.row e.choice.plane ≡ refuse number → Went s e
      → LayerStep c s (LayerEvent.one e) (layer_state_in e.result.state)
  range : {s : LayerState} {e : RangeEvent} → e.choice.row ≡ c.row → RangeWent s e → LayerStep c s (LayerEvent.range e) (layer_state_in e.result.state)
  other_range : {s : LayerState} {e : RangeEvent} {number : ℕ} → tiles_verdict s e.choice ≡ refuse number → RangeWent s e
      → LayerStep c s (LayerEvent.range e) (layer_state_in e.result.state)

-- any list of calls
pub data LayerRun (c : LayerCall) : LayerState → List LayerEvent → LayerState → Type 0 where
  none : {s : LayerState} → LayerRun c s [] s
  next : {s s' s'' : LayerState} {e : LayerEvent} {es : List LayerEvent} → LayerStep c s e s' → LayerRun c s' es s'' → LayerRun c s (e ∷ es) s''

-- ---- what the whole row says of the tile from + n

pub record LayerFacts (c : LayerCall) (n : ℕ) : Type 0 where
  -- the carry has a cover for each pixel row: the exact sum of the layer's covers so far (NonZero), or a number that agrees with it modulo 32
  -- (EvenOdd); a dropped one counts as zeros
  pub wide : length (cover_on c n) ≡ 4
  pub sums : FromRow gpu 4 (layer_rule c) (suc (layer_tile_on c n)) c.layer c.row (cover_on c n)
  -- a call that is due to be accepted is that of this tile
  pub tile_is : (choice : LayerChoice) → layer_due_verdict c n choice ≡ pass → choice.tile ≡ pos (layer_tile_on c n)

-- ---- what is right of the calls: the answer, the state and the plane, or the number of the refusal and all as it was; so along the list, by the verdicts
-- that are due

abbrev pub CallsDue : LayerCall → ℕ → List LayerEvent → Type 0
CallsDue c n [] = Unit {0}
CallsDue c n (LayerEvent.one e ∷ es) = RightLayer (work_layer_due c n e.choice) e × CallsDue c (tiles_after (layer_due_verdict c n e.choice) n) es
CallsDue c n (LayerEvent.range e ∷ es) = RightRange (work_tiles_due c n e.choice) e × CallsDue c (n + (work_tiles_due c n e.choice).worked) es

-- after any accepted opening and any works, every call is as the whole row has it
abbrev pub LayerClaim : Type 0
LayerClaim =
    (c : LayerCall) (r : OpenedLayer) (es : List LayerEvent) (s : LayerState) → call_verdict_of c ≡ pass → OpensLayer c r → LayerRun c (layer_state_in r.state) es s
    → (layer_state_in r.state ≡ layer_state_on c 0) × ((n : ℕ) → LayerFacts c n) × CallsDue c 0 es
