-- `answer_of` meets its contract. Assumes nothing.
use Rattle.laws.proofs.Prelude.{ap, ◌∙◌, given}
use Rattle.batch_steps.proofs.Rooms.{ended_given}
use Rattle.row_statements.specs.State.{state_in}
use Rattle.batch_steps.proofs.answer_of.Goals as goal

pub returns-in-Err : goal.returns-in-Err
returns-in-Err c = rw c.in-Err.is c.refused_at.ensures

pub returns-in-Ok : goal.returns-in-Ok
returns-in-Ok c = let a = c.args in rw c.in-Ok.is (ap given c.end_of.ensures ∙ ended_given (state_in a.at.state) a.at.worked a.tiles)
