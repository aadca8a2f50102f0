-- `tiles::work_tiles` meets its contract. Assumes nothing.
use Rattle.std.specs.Prelude.{◌≡◌, Ok}
use Rattle.laws.proofs.Prelude.{refl, sym, ap, ◌∙◌, to_z-of_z}
use Rattle.refusals.specs.Refusal.{judgement_in, pass}
use Rattle.layer_row_gpu.specs.LayerState.{layer_state_in}
use Rattle.layer_row_gpu.specs.WorkLayer.{work_layer_verdict}
use Rattle.layer_row_gpu.proofs.Going.{ready, told_so, works_so, none_asked, some_asked}
use Rattle.layer_row_gpu.proofs.tiles.work_tiles.Goals as goal
use Rattle.layer_row_gpu.proofs.tiles.work_tiles.Goals.{After-judge_work}

-- the judge's verdict of the first tile
told : (c : After-judge_work) → let a = c.args in judgement_in c.judge_work.result ≡ work_layer_verdict (layer_state_in a.state) a.tile a.row.now a.planes.now
told c = rw (to_z-of_z c.ranges.tile) at c.judge_work.ensures

passes : (c : After-judge_work) → let a = c.args in c.judge_work.result ≡ Ok tt → work_layer_verdict (layer_state_in a.state) a.tile a.row.now a.planes.now ≡ pass
passes c e = sym (told c) ∙ ap judgement_in e

pub returns-then-tiles-eq0 : goal.returns-then-tiles-eq0
returns-then-tiles-eq0 c =
    let a = c.args in
    told_so (none_asked (layer_state_in a.state) a.tile a.tiles a.row.now a.planes.now c.if-tiles-eq0.true) c.ended_so.ensures

pub work_on-requires : goal.work_on-requires
work_on-requires c =
    let a = c.args in
    ready (layer_state_in a.state) a.tile a.row.now a.planes.now (passes (goal.at.work_on-requires c).After-judge_work c.in-Ok.is)

pub returns-in-Err : goal.returns-in-Err
returns-in-Err c =
    let a = c.args in
    told_so (some_asked (layer_state_in a.state) a.tile a.tiles a.row.now a.planes.now _ c.if-tiles-eq0.false (sym (told (goal.at.returns-in-Err c).After-judge_work) ∙ ap judgement_in c.in-Err.is)) refl

pub returns-in-Ok : goal.returns-in-Ok
returns-in-Ok c =
    let a = c.args in
    works_so (some_asked (layer_state_in a.state) a.tile a.tiles a.row.now a.planes.now pass c.if-tiles-eq0.false (passes (goal.at.returns-in-Ok c).After-judge_work c.in-Ok.is)) c.work_on.ensures
