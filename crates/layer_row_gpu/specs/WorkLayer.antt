-- The work on the next tile of one layer's row: judged by 1, 2, 3 and 9, lowest first; the tile's 64 coverages written, and the carry handed on.
-- A refusal leaves the plane as it was and returns the equal state. Stands for W-213: 'planes have 64 numbers, carries 4 bytes'.
use Rattle.std.specs.Prelude.{◌≡◌, ◌||◌}
use Rattle.laws.specs.Prelude.{not, List, ℕ, suc, ltb, Float, ℤ, length, over}
use Rattle.refusals.specs.Refusal.{Judgement, pass, refuse, unless, judgement_in}
use Rattle.pixel_segment.specs.Field.{gpu}
use Rattle.segment_rows.specs.Rows.{is_row}
use Rattle.cover_statements.specs.Carry.{is_light}
use Rattle.cover_statements.specs.Cover.{cover_at}
use Rattle.cover_statements.specs.Plane.{plane_of}
use Rattle.layer_row_gpu.specs.LayerState.{LayerState, layer_state_in, layer_tile, past_tile, is_astray, is_other_tile}
use Rattle.layer_row_gpu.specs.declared.WorkedLayer.{WorkedLayer}

-- the lowest of 1, 2, 3 and 9 that applies
unfoldable pub work_layer_verdict : LayerState → ℤ → List ℕ → List Float → Judgement
work_layer_verdict s tile row plane =
    unless (ltb (length plane) 64) 1
    (unless (is_astray s || is_other_tile s tile) 2
    (unless (not (is_row gpu (suc s.tile_y) row)) 3
    (unless (not (is_light gpu 4 s.covers (layer_tile s tile row))) 9
    pass)))

-- what a caller chooses: the tile, and the row and the plane that it lends
pub record LayerChoice : Type 0 where
  pub tile : ℤ
  pub row : List ℕ
  pub plane : List Float

abbrev pub layer_choice : ℤ → List ℕ → List Float → LayerChoice
layer_choice tile row plane = record { tile = tile; row = row; plane = plane }

-- what a work gives: its answer, the state, and the lent plane at exit
pub record LayerGiven : Type 0 where
  pub answer : Judgement
  pub state : LayerState
  pub plane : List Float

-- by its verdict
abbrev pub worked_by : Judgement → LayerState → LayerChoice → LayerGiven
worked_by (refuse number) s choice = record { answer = refuse number; state = s; plane = choice.plane }
worked_by pass s choice =
    let part = layer_tile s choice.tile choice.row in
    record { answer = pass; state = past_tile s part; plane = over (plane_of gpu 4 s.rule (cover_at s.covers) part) choice.plane }

abbrev pub work_layer_of : LayerState → LayerChoice → LayerGiven
work_layer_of s choice = worked_by (work_layer_verdict s choice.tile choice.row choice.plane) s choice

-- the operation's promise
pub record WorksLayer (g : LayerGiven) (r : WorkedLayer) (back : List Float) : Type 0 where
  pub answer : judgement_in r.answer ≡ g.answer
  pub state_is : layer_state_in r.state ≡ g.state
  pub plane_is : back ≡ g.plane
