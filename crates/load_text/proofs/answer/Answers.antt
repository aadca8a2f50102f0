-- `answer` meets its contract: the two answers, by what is read of the text. Assumes nothing.
use Rattle.load_text.proofs.Printing.{in_range_lem, answered}
use Rattle.load_text.proofs.answer.Goals as goal

pub answer_load-requires : goal.answer_load-requires
answer_load-requires c = in_range_lem _ (rw c.in-Some.is at c.read_input.ensures)

pub returns-in-Some : goal.returns-in-Some
returns-in-Some c =
    answered (rw c.in-Some.is at c.read_input.ensures) c.answer_load.ensures

pub returns-in-None : goal.returns-in-None
returns-in-None c =
    answered (rw c.in-None.is at c.read_input.ensures) c.write_refusal.ensures
