-- What is told by numbers of an opening, a work and a range of one layer's row. Assumes nothing.
use Rattle.std.specs.Prelude.{◌≡◌}
use Rattle.laws.proofs.Prelude.{ap, subst, ◌∙◌, List, ℕ, Float}
use Rattle.refusals.specs.Refusal.{judgement_in}
use Rattle.layer_row_gpu.specs.LayerState.{LayerState, layer_state_in}
use Rattle.layer_row_gpu.specs.OpenLayer.{LayerCall, OpensLayer}
use Rattle.layer_row_gpu.specs.WorkLayer.{LayerChoice, work_layer_of, WorksLayer}
use Rattle.layer_row_gpu.specs.WorkTiles.{tiles_end_in, TilesChoice, work_tiles_of, WorksTiles}
use Rattle.layer_row_gpu.specs.declared.OpenedLayer.{OpenedLayer}
use Rattle.layer_row_gpu.specs.declared.WorkedLayer.{WorkedLayer}
use Rattle.layer_row_gpu.specs.declared.tiles.WorkedTiles.{WorkedTiles}
use Rattle.ffi_numbers.specs.Numbers.{judged_number}
use Rattle.ffi_four_high.specs.FourHighRows.{LayerNumbers, layer_numbers_by, TilesNumbers, done_by, tiles_numbers_by, OpenLayerTold, WorkLayerTold, TilesTold}

pub layer_opened : {c : LayerCall} {o : OpenedLayer} {old new : LayerNumbers} {r : ℕ} → OpensLayer c o → (r ≡ judged_number (judgement_in o.answer)) × (new ≡ layer_numbers_by (judgement_in o.answer) (layer_state_in o.state) old) → OpenLayerTold c old r new
layer_opened {old = old} opens told =
    record {
      number = told.0 ∙ ap judged_number opens.answer;
      numbers = told.1 ∙ λ i. layer_numbers_by (opens.answer i) (opens.state_is i) old;
    }

-- from a state that is read of numbers
pub layer_worked : {s t : LayerState} (choice : LayerChoice) {back : List Float} {w : WorkedLayer} {old new : LayerNumbers} {r : ℕ} → s ≡ t → WorksLayer (work_layer_of s choice) w back → (r ≡ judged_number (judgement_in w.answer)) × (new ≡ layer_numbers_by (judgement_in w.answer) (layer_state_in w.state) old) → WorkLayerTold (work_layer_of t choice) old r new back
layer_worked choice {back = back} {w = w} {old = old} e given told =
    let works = subst (λ (x : LayerState). WorksLayer (work_layer_of x choice) w back) e given in
    record {
      number = told.0 ∙ ap judged_number works.answer;
      numbers = told.1 ∙ λ i. layer_numbers_by (works.answer i) (works.state_is i) old;
      plane_is = works.plane_is;
    }

pub tiles_worked : {s t : LayerState} (choice : TilesChoice) {back : List Float} {w : WorkedTiles} {old new : TilesNumbers} {r : ℕ} → s ≡ t → WorksTiles (work_tiles_of s choice) w back → (r ≡ judged_number (judgement_in w.answer)) × (new ≡ record { state = layer_numbers_by (judgement_in w.answer) (layer_state_in w.state) old.state; done = done_by (judgement_in w.answer) w.worked (tiles_end_in w.ended) old.done }) → TilesTold (work_tiles_of t choice) old r new back
tiles_worked choice {back = back} {w = w} {old = old} e given told =
    let works = subst (λ (x : LayerState). WorksTiles (work_tiles_of x choice) w back) e given in
    record {
      number = told.0 ∙ ap judged_number works.answer;
      numbers =
          told.1
          ∙ λ i.
          tiles_numbers_by
          (record { answer = works.answer i; worked = works.worked_is i; ended = works.ended_is i; state = works.state_is i; planes = works.planes_are i })
          old;
      planes_are = works.planes_are;
    }
