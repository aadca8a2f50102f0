-- `work_tile` meets its contract. Assumes nothing.
use Rattle.refusals.specs.declared.Refusal.{Refusal}
use Rattle.std.specs.Prelude.{◌≡◌, Result, Ok}
use Rattle.laws.proofs.Prelude.{refl, sym, ap, ◌∙◌, to_z-of_z}
use Rattle.refusals.specs.Refusal.{Judgement, pass, judgement_in, and_then}
use Rattle.row_statements.specs.Lent.{columns, list_columns, lent_table}
use Rattle.row_statements.specs.State.{state_in}
use Rattle.row_statements.specs.TileWork.{WorkCall, WorkLent, work_call, work_lent, args_verdict, layers_verdict}
use Rattle.row_statements.proofs.Works.{judged_args, args_passed, judged, refused_by}
use Rattle.row_working.proofs.work_tile.Goals as goal
use Rattle.row_working.proofs.work_tile.Goals.{After-judge_work, Start}

-- what the function is called with, and what it is lent
called : Start → WorkCall
called s =
    let a = s.args in
    work_call (state_in a.state) a.tile a.row.now (lent_table a.layers.now a.colors.now a.count) a.kept a.clear a.previous (columns a.ids.now a.covers.now)

lent_to : Start → WorkLent
lent_to s =
    let a = s.args in
    work_lent (columns a.next_ids.now a.next_covers.now) (list_columns a.list_ids.now a.list_covers.now a.list_flags.now a.list_unmasked.now)

-- what the judge of 1 to 6 says
told : (c : After-judge_work) → judgement_in c.judge_work.result ≡ args_verdict (called c.before.before.before.before.before.before.before.before.before.before.before.before.before.before) (lent_to c.before.before.before.before.before.before.before.before.before.before.before.before.before.before)
unfolding called lent_to
told c =
    (rw (to_z-of_z c.ranges.tile, c.is_list_short.ensures, c.is_short-3.ensures, c.is_short-2.ensures, c.is_short.ensures) at c.judge_work.ensures)
    ∙ judged_args (called c.before.before.before.before.before.before.before.before.before.before.before.before.before.before) (lent_to c.before.before.before.before.before.before.before.before.before.before.before.before.before.before)

passes : (k : WorkCall) (l : WorkLent) {v : Result Unit Refusal} → judgement_in v ≡ args_verdict k l → v ≡ (Ok tt) → args_verdict k l ≡ pass
passes k l t e = sym t ∙ ap judgement_in e

pub work_judged-requires : goal.work_judged-requires
unfolding called lent_to
work_judged-requires c =
    let a = goal.at.work_judged-requires c in
    let k = called a.Start in
    let l = lent_to a.Start in
    rw (to_z-of_z c.ranges.tile)
    (judged k l (record { small = λ i. (c.type_inv.row i).fits }) (args_passed k l (passes k l (told a.After-judge_work) c.in-Ok.is)))

pub returns-in-Err : goal.returns-in-Err
unfolding called lent_to
returns-in-Err c =
    let a = goal.at.returns-in-Err c in
    let k = called a.Start in
    refused_by k (lent_to a.Start) (ap (λ (v : Judgement). and_then v (layers_verdict k)) (sym (told a.After-judge_work) ∙ ap judgement_in c.in-Err.is)) refl c.refuse.ensures

pub returns-in-Ok : goal.returns-in-Ok
unfolding called lent_to
returns-in-Ok c =
    let a = goal.at.returns-in-Ok c in
    let given = rw (to_z-of_z c.ranges.tile) at c.work_judged.ensures in
    rw (passes (called a.Start) (lent_to a.Start) (told a.After-judge_work) c.in-Ok.is) given
