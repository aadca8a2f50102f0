-- `work_part` meets its contract. Assumes nothing.
use Rattle.laws.proofs.Prelude.{refl, sym, ap, ◌∙◌, List, ℕ, arith, ℤ}
use Rattle.refusals.specs.Refusal.{judgement_in}
use Rattle.row_statements.specs.Lent.{columns, list_columns, lent_table}
use Rattle.row_statements.specs.State.{state_in}
use Rattle.row_statements.specs.TileWork.{WorkCall, WorkLent, work_call, work_lent}
use Rattle.row_statements.proofs.Works.{list_passed, refused_by, done_by}
use Rattle.row_working.proofs.work_part.Goals as goal
use Rattle.row_working.proofs.work_part.Goals.{Start}

-- what the function is called with, of whichever tile and row, and what it is lent
called : Start → ℤ → List ℕ → WorkCall
called s tile row =
    let a = s.args in
    work_call (state_in a.state) tile row (lent_table a.layers.now a.colors.now a.count) a.kept a.clear a.previous (columns a.ids.now a.covers.now)

lent_to : Start → WorkLent
lent_to s =
    let a = s.args in
    work_lent (columns a.next_ids.now a.next_covers.now) (list_columns a.list_ids.now a.list_covers.now a.list_flags.now a.list_unmasked.now)

pub judge_list-judged-requires : goal.judge_list-judged-requires
judge_list-judged-requires c = let p = c.requires in (p.walks, p.covers_long, p.in_table)

pub work-requires : goal.work-requires
work-requires c =
    let p = c.requires in
    let told = c.judge_list-judged.ensures in
    let passed = ap judgement_in c.in-Ok.is in
    let l = list_passed _ _ (sym told.judged.verdict ∙ passed) in
    (p.walks, p.covers_long, p.in_table, p.rooms, told.carries passed, told.judged.listed, omega (arith, told.judged.listed, l.few))

pub done-requires : goal.done-requires
done-requires c = c.requires.next_low

pub returns-in-Err : goal.returns-in-Err
unfolding called lent_to
returns-in-Err c =
    let told = c.judge_list-judged.ensures.judged.verdict in
    record { gives = λ tile row e. refused_by (called (goal.at.returns-in-Err c).Start tile row) (lent_to (goal.at.returns-in-Err c).Start) (sym (rw e at told) ∙ ap judgement_in c.in-Err.is) refl c.refuse.ensures }

pub returns-in-Ok : goal.returns-in-Ok
unfolding called lent_to
returns-in-Ok c =
    let told = c.judge_list-judged.ensures.judged.verdict in
    let w = c.work.ensures in
    record {
      gives =
          λ tile row e.
          done_by (called (goal.at.returns-in-Ok c).Start tile row) (lent_to (goal.at.returns-in-Ok c).Start) c.args.state c.args.part.now e (sym (rw e at told) ∙ ap judgement_in c.in-Ok.is) refl c.done.ensures
          w.answer w.list w.queue;
    }
