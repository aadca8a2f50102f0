-- `answer_front` meets its contract: the first 21 bytes of an input decide its answer. Assumes nothing.
use Rattle.laws.proofs.Prelude.{arith}
use Rattle.input_front.proofs.Held.{held}
use Rattle.load_statements.specs.Length.{input_room}
use Rattle.load_text.proofs.Printing.{by_front}
use Rattle.load_text.proofs.answer_front.Goals as goal

pub returns : goal.returns
returns c = λ whole h. by_front (held input_room h c.front.ensures (omega arith)) c.answer.ensures
