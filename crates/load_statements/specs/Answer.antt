-- What the load program prints. Stands for document 02, W-204: it 'writes a job text', and 'refuses with 10, printing only `refused 10`, any
-- input but one line of three whole numbers in these ranges'.
use Rattle.laws.specs.Prelude.{List, Option, Some, None, ℕ}
use Rattle.job_text_statements.specs.Job.{render}
use Rattle.report.specs.Text.{refusal_text}
use Rattle.load_statements.specs.declared.Asked.{Asked}
use Rattle.load_statements.specs.Load.{load_of}
use Rattle.load_statements.specs.Input.{ask}

abbrev pub load_answer : Option Asked → List ℕ
load_answer None = refusal_text 10
load_answer (Some a) = render (load_of a)

unfoldable pub load_answer_text : List ℕ → List ℕ
load_answer_text text = load_answer (ask text)
