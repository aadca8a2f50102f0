-- `work_tile` meets its contract. Assumes nothing.
use Rattle.std.specs.Prelude.{◌≡◌, Ok}
use Rattle.laws.proofs.Prelude.{sym, ap, ◌∙◌, ℤ, to_z-of_z, over}
use Rattle.refusals.specs.Refusal.{Judgement, judgement_in, pass}
use Rattle.pixel_segment.specs.Field.{gpu}
use Rattle.cover_statements.specs.Cover.{cover_at}
use Rattle.cover_statements.specs.Plane.{plane_of}
use Rattle.layer_row_gpu.specs.LayerState.{layer_state_in, layer_tile, past_tile}
use Rattle.layer_row_gpu.specs.WorkLayer.{work_layer_verdict, layer_choice, LayerGiven, worked_by}
use Rattle.layer_row_gpu.proofs.Verdicts.{work_passed, workable}
use Rattle.layer_row_gpu.proofs.work_tile.Goals as goal
use Rattle.layer_row_gpu.proofs.work_tile.Goals.{After-judge_work}

-- the judge's verdict
told : (c : After-judge_work) → let a = c.args in judgement_in c.judge_work.result ≡ work_layer_verdict (layer_state_in a.state) a.tile a.row.now a.plane.now
told c = rw (to_z-of_z c.ranges.tile) at c.judge_work.ensures

passes : (c : After-judge_work) → let a = c.args in c.judge_work.result ≡ Ok tt → work_layer_verdict (layer_state_in a.state) a.tile a.row.now a.plane.now ≡ pass
passes c e = sym (told c) ∙ ap judgement_in e

pub work-next-requires : goal.work-next-requires
work-next-requires c =
    let a = c.args in
    workable (layer_state_in a.state) a.tile a.row.now a.plane.now (passes (goal.at.work-next-requires c).After-judge_work c.in-Ok.is)

pub returns-in-Err : goal.returns-in-Err
returns-in-Err c =
    let a = c.args in
    let choice = layer_choice a.tile a.row.now a.plane.now in
    let v = sym (told (goal.at.returns-in-Err c).After-judge_work) ∙ ap judgement_in c.in-Err.is in
    let told-by = sym (ap (λ (k : Judgement). worked_by k (layer_state_in a.state) choice) v) in
    record {
      answer = ap (λ (x : LayerGiven). x.answer) told-by;
      state_is = ap (λ (x : LayerGiven). x.state) told-by;
      plane_is = ap (λ (x : LayerGiven). x.plane) told-by;
    }

pub returns-in-Ok : goal.returns-in-Ok
returns-in-Ok c =
    let a = c.args in
    let s = layer_state_in a.state in
    let choice = layer_choice a.tile a.row.now a.plane.now in
    let v = passes (goal.at.returns-in-Ok c).After-judge_work c.in-Ok.is in
    let due = sym (work_passed s a.tile a.row.now a.plane.now v).tile_is in
    let told-by = sym (ap (λ (k : Judgement). worked_by k s choice) v) in
    record {
      answer = ap (λ (x : LayerGiven). x.answer) told-by;
      state_is =
          c.work-next.ensures.0
          ∙ ap (λ (z : ℤ). past_tile s (layer_tile s z a.row.now)) due
          ∙ ap (λ (x : LayerGiven). x.state) told-by;
      plane_is =
          c.work-next.ensures.1
          ∙ ap (λ (z : ℤ). over (plane_of gpu 4 a.state.rule (cover_at a.state.cover.covers) (layer_tile s z a.row.now)) a.plane.now) due
          ∙ ap (λ (x : LayerGiven). x.plane) told-by;
    }
