-- The first 65,537 bytes of an input decide its answer. Assumes nothing.
use Rattle.std.specs.Prelude.{◌≡◌}
use Rattle.laws.proofs.Prelude.{sym, ap, ◌∙◌, List, ℕ, take}
use Rattle.job_text_statements.specs.Parse.{parse}
use Rattle.job_front.specs.Front.{input_room}
use Rattle.job_front.proofs.Fronts.{front_decides}
use Rattle.row_answer.specs.Answer.{answer_by, answer_text}

pub same_answer : (part whole : List ℕ) → part ≡ take input_room whole → answer_text whole ≡ answer_text part
unfolding answer_text
same_answer part whole e = ap answer_by (sym (ap parse e ∙ front_decides whole))
