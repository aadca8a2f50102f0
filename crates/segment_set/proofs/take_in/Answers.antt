-- `take_in` meets its contract. Assumes nothing.
use Rattle.std.specs.Prelude.{◌≡◌}
use Rattle.laws.proofs.Prelude.{sym, ap, ◌∙◌}
use Rattle.refusals.specs.Refusal.{Judgement, judgement_in}
use Rattle.segment_set_statements.specs.Set.{SetState, state, take_verdict, taken_in, settled}
use Rattle.segment_set_statements.proofs.Keeping.{take_passed}
use Rattle.segment_set.proofs.take_in.Goals as goal
use Rattle.segment_set.proofs.take_in.Goals.{After-judge_taking}

called : After-judge_taking → SetState
called s = state s.args.set s.args.slots.now s.args.areas.now

told : (c : After-judge_taking) → judgement_in c.judge_taking.result ≡ take_verdict (called c) c.args.word
unfolding called
told c = c.judge_taking.ensures

pub add-requires : goal.add-requires
unfolding called
add-requires c =
    let p = take_passed (called (goal.at.add-requires c).After-judge_taking) c.args.word (sym (told (goal.at.add-requires c).After-judge_taking) ∙ ap judgement_in c.in-Ok.is) in
    record { room = p.room; free = p.free; small = p.small }

pub returns-in-Err : goal.returns-in-Err
unfolding called
returns-in-Err c =
    let e = sym (told (goal.at.returns-in-Err c).After-judge_taking) ∙ ap judgement_in c.in-Err.is in
    record { answer = sym e; leaves = sym (ap (λ (j : Judgement). settled j (taken_in (called (goal.at.returns-in-Err c).After-judge_taking) c.args.word) (called (goal.at.returns-in-Err c).After-judge_taking)) e) }

pub returns-in-Ok : goal.returns-in-Ok
unfolding called
returns-in-Ok c =
    let e = sym (told (goal.at.returns-in-Ok c).After-judge_taking) ∙ ap judgement_in c.in-Ok.is in
    record { answer = sym e; leaves = c.add.ensures ∙ sym (ap (λ (j : Judgement). settled j (taken_in (called (goal.at.returns-in-Ok c).After-judge_taking) c.args.word) (called (goal.at.returns-in-Ok c).After-judge_taking)) e) }
