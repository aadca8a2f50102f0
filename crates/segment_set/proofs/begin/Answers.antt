-- `begin` meets its contract. Assumes nothing.
use Rattle.std.specs.Prelude.{◌≡◌}
use Rattle.laws.proofs.Prelude.{sym, ap, ◌∙◌, to_z-of_z}
use Rattle.refusals.specs.Refusal.{Judgement, judgement_in}
use Rattle.segment_set_statements.specs.Set.{Beginning, state, nothing, beginning, begin_verdict, fresh_state, settled}
use Rattle.segment_set_statements.specs.declared.SegmentSet.{SegmentSet}
use Rattle.segment_set.proofs.begin.Goals as goal
use Rattle.segment_set.proofs.begin.Goals.{After-judge_beginning}

called : After-judge_beginning → Beginning
called s = beginning s.args.layer_id s.args.tile_x s.args.tile_y s.args.cover.covers s.args.part.now

told : (c : After-judge_beginning) → judgement_in c.judge_beginning.result ≡ begin_verdict (called c) c.args.slots.now c.args.areas.now
unfolding called
told c =
    rw (to_z-of_z c.ranges.tile_x, to_z-of_z c.ranges.tile_y) at c.judge_beginning.ensures

pub begin_with-requires : goal.begin_with-requires
unfolding called
begin_with-requires c =
    rw (to_z-of_z c.ranges.tile_x, to_z-of_z c.ranges.tile_y)
    (sym (told (goal.at.begin_with-requires c).After-judge_beginning) ∙ ap judgement_in c.in-Ok.is)

pub returns-in-Err : goal.returns-in-Err
unfolding called
returns-in-Err c =
    let e = sym (told (goal.at.returns-in-Err c).After-judge_beginning) ∙ ap judgement_in c.in-Err.is in
    record {
      answer = sym e;
      leaves = ap (λ (r : SegmentSet). state r c.args.slots.now c.args.areas.now) c.empty_set.ensures ∙ sym (ap (λ (j : Judgement). settled j (fresh_state (called (goal.at.returns-in-Err c).After-judge_beginning) c.args.slots.now c.args.areas.now) (state nothing c.args.slots.now c.args.areas.now)) e);
    }

pub returns-in-Ok : goal.returns-in-Ok
unfolding called
returns-in-Ok c =
    let e = sym (told (goal.at.returns-in-Ok c).After-judge_beginning) ∙ ap judgement_in c.in-Ok.is in
    record {
      answer = sym e;
      leaves = rw (to_z-of_z c.ranges.tile_x, to_z-of_z c.ranges.tile_y) at c.begin_with.ensures ∙ sym (ap (λ (j : Judgement). settled j (fresh_state (called (goal.at.returns-in-Ok c).After-judge_beginning) c.args.slots.now c.args.areas.now) (state nothing c.args.slots.now c.args.areas.now)) e);
    }
