-- `answer_front` meets its contract: the first 65,537 bytes of an input decide its answer. Assumes nothing.
use Rattle.laws.proofs.Prelude.{arith}
use Rattle.input_front.proofs.Held.{held}
use Rattle.job_front.specs.Front.{input_room}
use Rattle.row_answer.proofs.Reading.{same_text}
use Rattle.row_text.proofs.Fronts.{same_answer}
use Rattle.row_text.proofs.answer_front.Goals as goal

pub returns : goal.returns
returns c = λ whole h. same_text (same_answer _ whole (held input_room h c.front.ensures (omega arith))) c.answer.ensures
