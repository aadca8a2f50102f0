-- `let_out` meets its contract. Assumes nothing.
use Rattle.std.specs.Prelude.{◌≡◌}
use Rattle.laws.proofs.Prelude.{sym, ap, ◌∙◌}
use Rattle.refusals.specs.Refusal.{Judgement, judgement_in}
use Rattle.segment_set_statements.specs.Set.{SetState, state, let_verdict, let_out, settled}
use Rattle.segment_set_statements.proofs.Letting.{let_judged, let_ready}
use Rattle.segment_set.proofs.let_out.Goals as goal
use Rattle.segment_set.proofs.let_out.Goals.{After-judge_letting}

called : After-judge_letting → SetState
called s = state s.args.set s.args.slots.now s.args.areas.now

told : (c : After-judge_letting) → judgement_in c.judge_letting.result ≡ let_verdict (called c) c.args.word
unfolding called
told c =
    c.judge_letting.ensures
    ∙ let_judged c.args.set c.args.word c.args.slots.now c.args.areas.now c.held_count-held.ensures c.find-place.ensures

pub remove-requires : goal.remove-requires
unfolding called
remove-requires c =
    let_ready c.args.set c.args.word c.args.slots.now c.args.areas.now c.held_count-held.ensures c.find-place.ensures
    (sym (told (goal.at.remove-requires c).After-judge_letting) ∙ ap judgement_in c.in-Ok.is)

pub returns-in-Err : goal.returns-in-Err
unfolding called
returns-in-Err c =
    let e = sym (told (goal.at.returns-in-Err c).After-judge_letting) ∙ ap judgement_in c.in-Err.is in
    record { answer = sym e; leaves = sym (ap (λ (j : Judgement). settled j (let_out (called (goal.at.returns-in-Err c).After-judge_letting) c.args.word) (called (goal.at.returns-in-Err c).After-judge_letting)) e) }

pub returns-in-Ok : goal.returns-in-Ok
unfolding called
returns-in-Ok c =
    let e = sym (told (goal.at.returns-in-Ok c).After-judge_letting) ∙ ap judgement_in c.in-Ok.is in
    record { answer = sym e; leaves = c.remove.ensures ∙ sym (ap (λ (j : Judgement). settled j (let_out (called (goal.at.returns-in-Ok c).After-judge_letting) c.args.word) (called (goal.at.returns-in-Ok c).After-judge_letting)) e) }
