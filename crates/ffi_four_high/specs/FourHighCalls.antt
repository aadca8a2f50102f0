-- Demand 3 for callers of the exports, at four pixels: an opening that tells 0 and any list of works and ranges after it, refused ones included, told by
-- numbers and lent slices alone. Every call tells what is due of it (layer_row_gpu/specs/LayerDue), which is worked from the whole row. The premise of
-- each call is the export's own contract, at the numbers that the call before it left. A work paints its tile, so there is no painting beside it.
-- proofs/FourHighCalls proves it, and that such calls exist after every opening.
use Rattle.std.specs.Prelude.{◌≡◌, ◌∷◌, ◌+◌}
use Rattle.laws.specs.Prelude.{List, [], map, ℕ, Float}
use Rattle.refusals.specs.Refusal.{refuse}
use Rattle.layer_row_gpu.specs.OpenLayer.{LayerCall}
use Rattle.layer_row_gpu.specs.LayerState.{LayerState}
use Rattle.layer_row_gpu.specs.WorkLayer.{LayerChoice, work_layer_verdict, work_layer_of}
use Rattle.layer_row_gpu.specs.WorkTiles.{TilesChoice, tiles_verdict, work_tiles_of}
use Rattle.layer_row_gpu.specs.LayerDue.{layer_due_verdict, work_layer_due, tiles_after, work_tiles_due}
use Rattle.layer_row_gpu.specs.LayerRun.{LayerFacts}
use Rattle.layer_row_gpu.specs.LayerExample.{CallChoice}
use Rattle.ffi_four_high.specs.FourHighRows.{LayerNumbers, layer_state_from, TilesNumbers, OpenLayerTold, WorkLayerTold, TilesTold}

-- the state of the numbers that a caller holds
abbrev pub state_held : LayerNumbers → LayerState
state_held k = layer_state_from k.words k.covers

-- ---- calls as they went: what was chosen and lent, the number, and what the lent numbers and the lent planes are then

pub data LayerTold : Type 0 where
  work : (choice : LayerChoice) (old : LayerNumbers) (r : ℕ) (new : LayerNumbers) (back : List Float) → LayerTold
  range : (choice : TilesChoice) (old : TilesNumbers) (r : ℕ) (new : TilesNumbers) (back : List Float) → LayerTold

-- a call lends the numbers that the caller holds, and the row that was opened; one that is turned down may lend another row
pub data NumberCall (c : LayerCall) : LayerNumbers → LayerTold → LayerNumbers → Type 0 where
  work : {k new : LayerNumbers} {choice : LayerChoice} {r : ℕ} {back : List Float} → choice.row ≡ c.row
      → WorkLayerTold (work_layer_of (state_held k) choice) k r new back → NumberCall c k (LayerTold.work choice k r new back) new
  other_work : {k new : LayerNumbers} {choice : LayerChoice} {n r : ℕ} {back : List Float} → work_layer_verdict (state_held k) choice.tile choice.row choice.plane ≡ refuse n
      → WorkLayerTold (work_layer_of (state_held k) choice) k r new back → NumberCall c k (LayerTold.work choice k r new back) new
  range : {old new : TilesNumbers} {choice : TilesChoice} {r : ℕ} {back : List Float} → choice.row ≡ c.row
      → TilesTold (work_tiles_of (state_held old.state) choice) old r new back → NumberCall c old.state (LayerTold.range choice old r new back) new.state
  other_range : {old new : TilesNumbers} {choice : TilesChoice} {n r : ℕ} {back : List Float} → tiles_verdict (state_held old.state) choice ≡ refuse n
      → TilesTold (work_tiles_of (state_held old.state) choice) old r new back → NumberCall c old.state (LayerTold.range choice old r new back) new.state

pub data NumberCalls (c : LayerCall) : LayerNumbers → List LayerTold → LayerNumbers → Type 0 where
  none : {k : LayerNumbers} → NumberCalls c k [] k
  next : {k k' k'' : LayerNumbers} {t : LayerTold} {ts : List LayerTold} → NumberCall c k t k' → NumberCalls c k' ts k'' → NumberCalls c k (t ∷ ts) k''

-- ---- what is right of them: the numbers and the lent planes are those of what is due

abbrev pub RightTold : LayerCall → ℕ → LayerTold → Type 0
RightTold c n (LayerTold.work choice old r new back) = WorkLayerTold (work_layer_due c n choice) old r new back
RightTold c n (LayerTold.range choice old r new back) = TilesTold (work_tiles_due c n choice) old r new back

-- how many tiles are worked then, by what is due
abbrev pub tiles_told : LayerCall → ℕ → LayerTold → ℕ
tiles_told c n (LayerTold.work choice old r new back) = tiles_after (layer_due_verdict c n choice) n
tiles_told c n (LayerTold.range choice old r new back) = n + (work_tiles_due c n choice).worked

abbrev pub AllTold : LayerCall → ℕ → List LayerTold → Type 0
AllTold c n [] = Unit {0}
AllTold c n (t ∷ ts) = RightTold c n t × AllTold c (tiles_told c n t) ts

-- ---- the claim; what the row alone says of every tile stands beside it

abbrev pub NumbersClaim : Type 0
NumbersClaim =
    (c : LayerCall) (old new k : LayerNumbers) (ts : List LayerTold) → OpenLayerTold c old 0 new → NumberCalls c new ts k → ((n : ℕ) → LayerFacts c n) × AllTold c 0 ts

-- ---- it is not empty: any choices with the row that was opened are those of some calls

abbrev pub choice_told : LayerTold → CallChoice
choice_told (LayerTold.work choice old r new back) = CallChoice.one choice
choice_told (LayerTold.range choice old r new back) = CallChoice.range choice

abbrev pub LendsRow : LayerCall → List CallChoice → Type 0
LendsRow c [] = Unit {0}
LendsRow c (CallChoice.one choice ∷ cs) = (choice.row ≡ c.row) × LendsRow c cs
LendsRow c (CallChoice.range choice ∷ cs) = (choice.row ≡ c.row) × LendsRow c cs

pub record CalledSo (c : LayerCall) (k : LayerNumbers) (cs : List CallChoice) : Type 0 where
  pub told : List LayerTold
  pub after : LayerNumbers
  pub calls : NumberCalls c k told after
  pub choices : map choice_told told ≡ cs

abbrev pub NumbersExist : Type 0
NumbersExist = (c : LayerCall) (k : LayerNumbers) (cs : List CallChoice) → LendsRow c cs → CalledSo c k cs
