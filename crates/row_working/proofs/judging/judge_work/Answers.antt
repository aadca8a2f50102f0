-- `judging::judge_work` meets its contract. Assumes nothing.
use Rattle.std.specs.Prelude.{◌≡◌}
use Rattle.laws.proofs.Prelude.{to_z-of_z}
use Rattle.refusals.specs.Refusal.{judgement_in}
use Rattle.refusals.proofs.Judging.{handed_on}
use Rattle.row_statements.specs.Lent.{lent_table}
use Rattle.row_statements.specs.State.{state_in}
use Rattle.row_statements.specs.InnerWork.{judged_by}
use Rattle.row_working.proofs.judging.judge_work.Goals as goal
use Rattle.row_working.proofs.judging.judge_work.Goals.{After-judge_row}

-- what the judge of 1 to 5 says
told : (c : After-judge_row) → let a = c.args in judgement_in c.judge_row.result ≡ judged_by a.short (state_in a.state) a.tile a.row.now (lent_table a.layers.now a.colors.now a.count) a.ids.now
told c = rw (to_z-of_z c.ranges.tile) at c.judge_row.ensures

pub returns-in_err-judge_row : goal.returns-in_err-judge_row
returns-in_err-judge_row c = rw (← told (goal.at.returns-in_err-judge_row c).After-judge_row, c.in_err-judge_row.was, handed_on c.from_residual.result c.from_residual.ensures.1)

pub returns : goal.returns
returns c = rw (← told (goal.at.returns c).After-judge_row, c.in_ok-judge_row.was) c.judge_tag.ensures
