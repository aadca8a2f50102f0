-- The theorem over any works and ranges after an accepted opening: each call is as the whole row has it. Assumes nothing.
use Rattle.std.specs.Prelude.{◌≡◌, ◌∷◌, ◌+◌, ◌≤◌}
use Rattle.laws.proofs.Prelude.{refl, sym, ap, subst, ◌∙◌, List, ℕ, arith, plus}
use Rattle.refusals.specs.Refusal.{Judgement, pass, refuse}
use Rattle.layer_row_gpu.specs.LayerState.{LayerState, layer_state_in}
use Rattle.layer_row_gpu.specs.OpenLayer.{LayerCall, first_state, opened_state}
use Rattle.layer_row_gpu.specs.WorkLayer.{LayerChoice, work_layer_verdict, LayerGiven, work_layer_of}
use Rattle.layer_row_gpu.specs.WorkTiles.{TilesChoice, tiles_verdict, TilesGiven, work_tiles_of}
use Rattle.layer_row_gpu.specs.LayerDue.{layer_tile_on, layer_state_on, layer_due_verdict, work_layer_due, tiles_after, tiles_due_verdict, work_tiles_due}
use Rattle.layer_row_gpu.specs.LayerRun.{WorkEvent, RangeEvent, LayerEvent, RightLayer, RightRange, Went, RangeWent, LayerStep, LayerRun, CallsDue, LayerClaim}
use Rattle.layer_row_gpu.proofs.Verdicts.{OpenPassed, open_passed}
use Rattle.layer_row_gpu.proofs.Dues.{layer_facts, start, verdict_due, work_given, inside_after, state_after_lem}
use Rattle.layer_row_gpu.proofs.Ranges.{tiles_verdict_due, tiles_given, tiles_inside, tiles_state}

never : {number : ℕ} → pass ≡ refuse number → ⊥
never q = let z : ◌≡◌ {A = ℕ} 0 1 = cc in omega arith

module _ (c : LayerCall) (p : OpenPassed c) (n : ℕ) (inside : layer_tile_on c n ≤ plus c.to) where
  -- a call with another row is not due to be accepted
  pub turned_down : {s : LayerState} {number : ℕ} (choice : LayerChoice) → s ≡ layer_state_on c n → work_layer_verdict s choice.tile choice.row choice.plane ≡ refuse number → layer_due_verdict c n choice ≡ pass → choice.row ≡ c.row
  turned_down choice is refused v =
      absurd (never (sym (ap (λ (x : LayerState). work_layer_verdict x choice.tile choice.row choice.plane) is ∙ verdict_due c p n inside choice ∙ v) ∙ refused))

  pub range_turned_down : {s : LayerState} {number : ℕ} (choice : TilesChoice) → s ≡ layer_state_on c n → tiles_verdict s choice ≡ refuse number → tiles_due_verdict c n choice ≡ pass → choice.row ≡ c.row
  range_turned_down choice is refused v =
      absurd (never (sym (ap (λ (x : LayerState). tiles_verdict x choice) is ∙ tiles_verdict_due c p n inside choice ∙ v) ∙ refused))

  one_due : {s : LayerState} (e : WorkEvent) → s ≡ layer_state_on c n → (layer_due_verdict c n e.choice ≡ pass → e.choice.row ≡ c.row) → Went s e → RightLayer (work_layer_due c n e.choice) e
  one_due e is same w =
      subst (λ (g : LayerGiven). RightLayer g e) (ap (λ (x : LayerState). work_layer_of x e.choice) is ∙ work_given c p n inside e.choice same) w

  range_due : {s : LayerState} (e : RangeEvent) → s ≡ layer_state_on c n → (tiles_due_verdict c n e.choice ≡ pass → e.choice.row ≡ c.row) → RangeWent s e → RightRange (work_tiles_due c n e.choice) e
  range_due e is same w =
      subst (λ (g : TilesGiven). RightRange g e) (ap (λ (x : LayerState). work_tiles_of x e.choice) is ∙ tiles_given c p n inside e.choice same) w

-- ---- any list of calls

module _ (c : LayerCall) (p : OpenPassed c) where
  -- what is right of the calls after it, from any number of tiles that leads to the state
  abbrev Then : LayerState → List LayerEvent → Type 0
  Then s es = (m : ℕ) → layer_tile_on c m ≤ plus c.to → s ≡ layer_state_on c m → CallsDue c m es

  module _ (n : ℕ) (inside : layer_tile_on c n ≤ plus c.to) where
    one_then : {s : LayerState} (es : List LayerEvent) (e : WorkEvent) → s ≡ layer_state_on c n → (layer_due_verdict c n e.choice ≡ pass → e.choice.row ≡ c.row) → Went s e
        → Then (layer_state_in e.result.state) es → CallsDue c n (LayerEvent.one e ∷ es)
    one_then es e is same w more =
        let v = layer_due_verdict c n e.choice in
        let d = one_due c p n inside e is same w in
        (d, more (tiles_after v n) (inside_after c p n inside e.choice v refl) (d.state_is ∙ state_after_lem c n e.choice.plane v))

    range_then : {s : LayerState} (es : List LayerEvent) (e : RangeEvent) → s ≡ layer_state_on c n → (tiles_due_verdict c n e.choice ≡ pass → e.choice.row ≡ c.row) → RangeWent s e
        → Then (layer_state_in e.result.state) es → CallsDue c n (LayerEvent.range e ∷ es)
    range_then es e is same w more =
        let d = range_due c p n inside e is same w in
        (d, more (n + (work_tiles_due c n e.choice).worked) (tiles_inside c p n inside e.choice) (d.state_is ∙ tiles_state c n e.choice))

    step_then : {s s' : LayerState} {e : LayerEvent} (es : List LayerEvent) → s ≡ layer_state_on c n → LayerStep c s e s' → Then s' es → CallsDue c n (e ∷ es)
    step_then es is (LayerStep.work {e = e} same w) more = one_then es e is (λ v. same) w more
    step_then es is (LayerStep.other {e = e} refused w) more = one_then es e is (turned_down c p n inside e.choice is refused) w more
    step_then es is (LayerStep.range {e = e} same w) more = range_then es e is (λ v. same) w more
    step_then es is (LayerStep.other_range {e = e} refused w) more = range_then es e is (range_turned_down c p n inside e.choice is refused) w more

  pub calls_due : {s s' : LayerState} {es : List LayerEvent} → LayerRun c s es s' → Then s es
  calls_due LayerRun.none n inside is = tt
  calls_due (LayerRun.next {es = es} step more) n inside is = step_then n inside es is step (calls_due more)

-- 'carry and coverage are held to the same working from the whole row as at 16'
pub layer_row : LayerClaim
layer_row c r es s ok o g =
    let p = open_passed c ok in
    let first : layer_state_on c 0 ≡ first_state c = start c in
    let is : layer_state_in r.state ≡ layer_state_on c 0 = o.state_is ∙ ap (λ (j : Judgement). opened_state j c) ok ∙ sym first in
    (is, layer_facts c, calls_due c p g 0 (omega (arith, p.span.first.1)) is)
