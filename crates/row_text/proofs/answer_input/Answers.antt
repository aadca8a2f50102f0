-- `answer_input` meets its contract: what is written is the front of the buffer that the answer fills. Assumes nothing.
use Rattle.input_front.proofs.Held.{own, handed_on}
use Rattle.report.proofs.Putting.{front, line_length, line_within}
use Rattle.row_answer.specs.Answer.{answer_text}
use Rattle.row_text.proofs.answer_input.Goals as goal

pub slice_bounds-out-end : goal.slice_bounds-out-end
slice_bounds-out-end g c = line_within (c.answer_front-end.ensures _ (own _ _))

pub slice_bounds-write_all-end : goal.slice_bounds-write_all-end
slice_bounds-write_all-end g c = line_length (c.answer_front-end.ensures _ (own _ _))

pub returns : goal.returns
returns g c =
    handed_on _ _ _ _ answer_text c.in_ok-n.ensures.holds (λ whole h. front (c.answer_front-end.ensures whole h)) c.write_all.ensures.bytes
