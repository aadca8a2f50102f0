-- `open_layer_row` meets its contract. Assumes nothing.
use Rattle.std.specs.Prelude.{◌≡◌, Ok}
use Rattle.laws.proofs.Prelude.{sym, ap, ◌∙◌, to_z-of_z}
use Rattle.refusals.specs.Refusal.{Judgement, judgement_in, pass}
use Rattle.layer_row_gpu.specs.OpenLayer.{LayerCall, layer_call, call_verdict_of, opened_state}
use Rattle.layer_row_gpu.proofs.Verdicts.{openable}
use Rattle.layer_row_gpu.proofs.open_layer_row.Goals as goal
use Rattle.layer_row_gpu.proofs.open_layer_row.Goals.{After-judge_opening}

-- what the function is called with
abbrev called : After-judge_opening → LayerCall
called s = let a = s.args in layer_call a.tile_y a.from a.to a.layer_id a.rule a.row.now

-- the judge's verdict
told : (c : After-judge_opening) → judgement_in c.judge_opening.result ≡ call_verdict_of (called c)
told c =
    rw (to_z-of_z c.ranges.tile_y, to_z-of_z c.ranges.from, to_z-of_z c.ranges.to) at c.judge_opening.ensures

passes : (c : After-judge_opening) → c.judge_opening.result ≡ Ok tt → call_verdict_of (called c) ≡ pass
passes c e = sym (told c) ∙ ap judgement_in e

pub open-state-requires : goal.open-state-requires
open-state-requires c =
    rw (to_z-of_z c.ranges.tile_y, to_z-of_z c.ranges.from, to_z-of_z c.ranges.to) (openable (called (goal.at.open-state-requires c).After-judge_opening) (passes (goal.at.open-state-requires c).After-judge_opening c.in-Ok.is))

pub returns-in-Err : goal.returns-in-Err
returns-in-Err c =
    let v = sym (told (goal.at.returns-in-Err c).After-judge_opening) ∙ ap judgement_in c.in-Err.is in
    record { answer = sym v; state_is = c.closed-state.ensures ∙ sym (ap (λ (k : Judgement). opened_state k (called (goal.at.returns-in-Err c).After-judge_opening)) v) }

pub returns-in-Ok : goal.returns-in-Ok
returns-in-Ok c =
    let v = passes (goal.at.returns-in-Ok c).After-judge_opening c.in-Ok.is in
    record {
      answer = sym v;
      state_is =
          (rw (to_z-of_z c.ranges.tile_y, to_z-of_z c.ranges.from, to_z-of_z c.ranges.to) at c.open-state.ensures)
          ∙ sym (ap (λ (k : Judgement). opened_state k (called (goal.at.returns-in-Ok c).After-judge_opening)) v);
    }
