-- The claim of LayerRun is not empty: an accepted opening and a run after it that meet its premises, in which an EvenOdd carry is dropped, a range works
-- a tile and ends before one that number 9 refuses, and calls are refused by 1, 2, 3 and 9 before and after accepted ones. proofs/LayerExample has it.
use Rattle.std.specs.Prelude.{◌≡◌, ◌∷◌, ◌+◌}
use Rattle.laws.specs.Prelude.{List, [], map, ℕ, binary32, of_bits, ℤ, pos, negsuc, replicate}
use Rattle.refusals.specs.Refusal.{Judgement, pass, refuse}
use Rattle.pixel_segment.specs.Field.{gpu}
use Rattle.pixel_segment.specs.Pack.{word_of}
use Rattle.layer_row_gpu.specs.LayerState.{LayerState, layer_state_in}
use Rattle.layer_row_gpu.specs.OpenLayer.{LayerCall, call_verdict_of, OpensLayer}
use Rattle.layer_row_gpu.specs.WorkLayer.{LayerChoice}
use Rattle.layer_row_gpu.specs.WorkTiles.{refused, TilesChoice}
use Rattle.layer_row_gpu.specs.LayerDue.{cover_on, layer_due_verdict, tiles_after, tiles_due_verdict, work_tiles_due}
use Rattle.layer_row_gpu.specs.LayerRun.{LayerEvent, LayerRun}
use Rattle.layer_row_gpu.specs.declared.OpenedLayer.{OpenedLayer}

pub data CallChoice : Type 0 where
  one : (choice : LayerChoice) → CallChoice
  range : (choice : TilesChoice) → CallChoice

abbrev pub choice_in : LayerEvent → CallChoice
choice_in (LayerEvent.one e) = CallChoice.one e.choice
choice_in (LayerEvent.range e) = CallChoice.range e.choice

-- the verdicts that are due of a list of choices
unfoldable pub layer_dues : LayerCall → ℕ → List CallChoice → List Judgement
layer_dues c n [] = []
layer_dues c n (CallChoice.one choice ∷ choices) = layer_due_verdict c n choice ∷ layer_dues c (tiles_after (layer_due_verdict c n choice) n) choices
layer_dues c n (CallChoice.range choice ∷ choices) = tiles_due_verdict c n choice ∷ layer_dues c (n + (work_tiles_due c n choice).worked) choices

-- layer 1 has a cover of 16 in pixel row 0 of tile -1 and one in tile 0, which EvenOdd sees as none together; in pixel row 1 of tile 2 it has more
-- than number 9 lets pass
abbrev segment : ℤ → ℕ → ℕ → ℕ
segment tile y cover = word_of gpu 1 tile (pos 0) 3 y 32 (pos cover)

abbrev pub row_of_one : List ℕ
row_of_one = segment (negsuc 0) 0 16 ∷ segment (pos 0) 0 16 ∷ replicate 5 (segment (pos 2) 1 31)

abbrev pub call_of_one : LayerCall
call_of_one = record { tile_y = pos 0; from = pos 0; to = pos 3; layer = 1; rule = 1; row = row_of_one }

abbrev choosing : ℤ → List ℕ → ℕ → LayerChoice
choosing tile row n = record { tile = tile; row = row; plane = replicate n (of_bits binary32 0) }

abbrev pub short_plane : LayerChoice
short_plane = choosing (pos 0) row_of_one 63

abbrev pub descending_row : LayerChoice
descending_row = choosing (pos 0) (segment (pos 1) 0 1 ∷ segment (pos 0) 0 1 ∷ []) 64

abbrev pub first_tile : LayerChoice
first_tile = choosing (pos 0) row_of_one 64

abbrev pub second_tile : LayerChoice
second_tile = choosing (pos 1) row_of_one 64

-- five tiles from one on, with three planes
abbrev pub range_from : ℤ → TilesChoice
range_from tile = record { tile = tile; tiles = 5; row = row_of_one; planes = replicate 192 (of_bits binary32 0) }

-- tile 1 is chosen too early, and tile 0 a second time
abbrev pub choices_of_one : List CallChoice
choices_of_one =
    CallChoice.one short_plane ∷ CallChoice.one second_tile ∷ CallChoice.one descending_row ∷ CallChoice.one first_tile ∷ CallChoice.one first_tile
    ∷ CallChoice.range (range_from (pos 1)) ∷ CallChoice.range (range_from (pos 2)) ∷ CallChoice.range (range_from (pos 1)) ∷ []

pub record LayerRan : Type 0 where
  pub result : OpenedLayer
  pub events : List LayerEvent
  pub after : LayerState
  -- the claim's premises
  pub accepted : call_verdict_of call_of_one ≡ pass
  pub opens : OpensLayer call_of_one result
  pub runs : LayerRun call_of_one (layer_state_in result.state) events after
  -- which calls are made, and by which numbers they are refused
  pub choices : map choice_in events ≡ choices_of_one
  pub dues : layer_dues call_of_one 0 choices_of_one ≡ refuse 1 ∷ refuse 2 ∷ refuse 3 ∷ pass ∷ refuse 2 ∷ pass ∷ refuse 9 ∷ refuse 2 ∷ []
  -- the range works tile 1, and ends before tile 2
  pub ranged : ((work_tiles_due call_of_one 1 (range_from (pos 1))).worked ≡ 1) × ((work_tiles_due call_of_one 1 (range_from (pos 1))).ended ≡ refused 9)
  -- the carry is dropped past tile 0
  pub dropped : (cover_on call_of_one 0 ≡ pos 16 ∷ pos 0 ∷ pos 0 ∷ pos 0 ∷ []) × (cover_on call_of_one 1 ≡ replicate 4 (pos 0))
