-- One layer's row of tiles four pixels high as numbers, six words and the four bytes of a cover; its opening, its works and its ranges by them. Stands for
-- W-213, for callers that know no struct.
use Rattle.std.specs.Prelude.{◌≡◌, ◌∷◌}
use Rattle.laws.specs.Prelude.{List, [], ℕ, Float, ℤ, get_or}
use Rattle.refusals.specs.Refusal.{Judgement, pass, refuse}
use Rattle.styling.specs.Codes.{rule_code, rule_of}
use Rattle.layer_row_gpu.specs.LayerState.{LayerState}
use Rattle.layer_row_gpu.specs.OpenLayer.{LayerCall, call_verdict_of, opened_state}
use Rattle.layer_row_gpu.specs.WorkLayer.{LayerGiven}
use Rattle.layer_row_gpu.specs.WorkTiles.{TilesEnd, asked, row_end, no_room, refused, TilesGiven}
use Rattle.ffi_numbers.specs.Numbers.{judged_number}

-- ---- a state

pub record LayerNumbers : Type 0 where
  pub words : List ℕ
  pub covers : List ℤ

abbrev pub layer_numbers : List ℕ → List ℤ → LayerNumbers
layer_numbers words covers = record { words = words; covers = covers }

-- tile y, from, to, the next tile, the layer, and the number of its rule
abbrev pub layer_row_words : LayerState → List ℕ
layer_row_words s = s.tile_y ∷ s.from ∷ s.to ∷ s.next ∷ s.layer ∷ rule_code s.rule ∷ []

-- the state of such numbers
abbrev pub layer_state_from : List ℕ → List ℤ → LayerState
layer_state_from words covers =
    record {
      tile_y = get_or words 0 0;
      from = get_or words 1 0;
      to = get_or words 2 0;
      next = get_or words 3 0;
      layer = get_or words 4 0;
      rule = rule_of (get_or words 5 0);
      covers = covers;
    }

-- what the numbers are after a call: those of its state; a refusal leaves every one as it was
abbrev pub layer_numbers_by : Judgement → LayerState → LayerNumbers → LayerNumbers
layer_numbers_by pass s old = record { words = layer_row_words s; covers = s.covers }
layer_numbers_by (refuse number) s old = old

-- ---- a range, beside the state: how many tiles were worked, why it ended, and the number that the next tile would be refused by

-- 0 all that were asked for, 1 the row's end, 2 no plane is left, 3 the next tile would be refused
abbrev pub end_number : TilesEnd → ℕ
end_number asked = 0
end_number row_end = 1
end_number no_room = 2
end_number (refused number) = 3

-- 0 where the range did not end by a refusal
abbrev pub end_refusal : TilesEnd → ℕ
end_refusal asked = 0
end_refusal row_end = 0
end_refusal no_room = 0
end_refusal (refused number) = number

abbrev pub done_of : ℕ → TilesEnd → List ℕ
done_of worked e = worked ∷ end_number e ∷ end_refusal e ∷ []

pub record TilesNumbers : Type 0 where
  pub state : LayerNumbers
  pub done : List ℕ

abbrev pub tiles_numbers : List ℕ → List ℤ → List ℕ → TilesNumbers
tiles_numbers words covers done = record { state = layer_numbers words covers; done = done }

abbrev pub done_by : Judgement → ℕ → TilesEnd → List ℕ → List ℕ
done_by pass worked e old = done_of worked e
done_by (refuse number) worked e old = old

-- after a range; one that is refused leaves the three numbers too as they were
abbrev pub tiles_numbers_by : TilesGiven → TilesNumbers → TilesNumbers
tiles_numbers_by g old = record { state = layer_numbers_by g.answer g.state old.state; done = done_by g.answer g.worked g.ended old.done }

-- ---- all that an opening, a work and a range give and leave

pub record OpenLayerTold (c : LayerCall) (old : LayerNumbers) (r : ℕ) (new : LayerNumbers) : Type 0 where
  pub number : r ≡ judged_number (call_verdict_of c)
  pub numbers : new ≡ layer_numbers_by (call_verdict_of c) (opened_state (call_verdict_of c) c) old

pub record WorkLayerTold (g : LayerGiven) (old : LayerNumbers) (r : ℕ) (new : LayerNumbers) (back : List Float) : Type 0 where
  pub number : r ≡ judged_number g.answer
  pub numbers : new ≡ layer_numbers_by g.answer g.state old
  pub plane_is : back ≡ g.plane

pub record TilesTold (g : TilesGiven) (old : TilesNumbers) (r : ℕ) (new : TilesNumbers) (back : List Float) : Type 0 where
  pub number : r ≡ judged_number g.answer
  pub numbers : new ≡ tiles_numbers_by g old
  pub planes_are : back ≡ g.planes
