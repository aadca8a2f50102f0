-- `stand` meets its contract: a refusal leaves all as it was, and what passes is written. Assumes nothing.
use Rattle.laws.proofs.Prelude.{sym, ap, ◌∙◌, arith}
use Rattle.refusals.specs.Refusal.{judgement_in}
use Rattle.refusals.proofs.Judging.{handed_on}
use Rattle.revision_statements.proofs.Verdicts.{passes, judged, stands_refused, stands_written}
use Rattle.revisions.proofs.stand.Goals as goal

pub write_standing-requires : goal.write_standing-requires
write_standing-requires c =
    let p = passes (sym c.judge_records.ensures ∙ ap judgement_in c.in_ok-judge_records.was) in
    rw c.sent_room.ensures (judged p (λ i. (c.type_inv.records i).fits), omega arith, p.single, p.room)

pub returns-in_err-judge_records : goal.returns-in_err-judge_records
returns-in_err-judge_records c = rw (handed_on c.from_residual.result c.from_residual.ensures.1) (stands_refused _ _ _ (sym (ap judgement_in c.in_err-judge_records.was) ∙ c.judge_records.ensures))

pub returns : goal.returns
returns c =
    let v = sym c.judge_records.ensures ∙ ap judgement_in c.in_ok-judge_records.was in
    stands_written (sym v) (rw c.sent_room.ensures at c.write_standing.ensures)
