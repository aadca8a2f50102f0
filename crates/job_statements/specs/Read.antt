-- What `read_job` promises: its answer, and all three lent arrays at exit.
use Rattle.std.specs.Prelude.{◌≡◌, ◌&&◌, ◌*◌, ◌/◌, ◌≤◌, Result, Ok, Err}
use Rattle.laws.specs.Prelude.{Bool, true, false, cond, List, [], Option, Some, None, ℕ, leb, Float, ℤ, length, Answer}
use Rattle.laws.specs.Prelude.{refused, given, over, all}
use Rattle.job_text_statements.specs.declared.Head.{Head}
use Rattle.job_statements.specs.declared.JobError.{JobError}
use Rattle.job_statements.specs.declared.JobError.TheVariants.{NoRoom, Malformed}
use Rattle.job_statements.specs.declared.Numbers.{Numbers}
use Rattle.job_lines.specs.Rules.{layer_rule, segment_rule, segment_count}
use Rattle.job_text_statements.specs.Job.{Job, render, WellFormed, Prints}
use Rattle.job_text_statements.specs.Parse.{parse}
use Rattle.job_text_statements.specs.Numbers.{layer_lines, segments_in}
use Rattle.job_statements.specs.Table.{table_words, table_colors}
use Rattle.job_statements.specs.Row.{row_words}

-- whether the lent arrays hold a job: a record of the table has eight words and four floats
unfoldable pub has_room : List ℕ → List Float → List ℕ → Job → Bool
has_room layers colors row j =
    leb (length j.layers) (length layers / 8) && leb (length j.layers) (length colors / 4) && leb (segment_count j.segments) (length row)

-- the three outcomes: a job to be written, a job that the lent arrays can't hold, a malformed text
pub data JobOutcome : Type 0 where
  accepted : Job → JobOutcome
  no_room : Job → JobOutcome
  malformed : JobOutcome

abbrev pub outcome_by : List ℕ → List Float → List ℕ → Option Job → JobOutcome
outcome_by layers colors row None = malformed
outcome_by layers colors row (Some j) = cond (has_room layers colors row j) (accepted j) (no_room j)

unfoldable pub job_outcome : List ℕ → List ℕ → List Float → List ℕ → JobOutcome
job_outcome text layers colors row = outcome_by layers colors row (parse text)

-- ---- the answer

-- the cases of the code's answer: the numbers, none where a lent array is too short, or refusal 10
abbrev pub reading_answer : Result Numbers JobError → Answer (Option Numbers)
reading_answer (Ok x) = given (Some x)
reading_answer (Err NoRoom) = given None
reading_answer (Err Malformed) = refused 10

abbrev pub answer_to : JobOutcome → Answer (Option Numbers)
answer_to (accepted j) = given (Some (record { head = j.head; layers = length j.layers; segments = segment_count j.segments }))
answer_to (no_room j) = given None
answer_to malformed = refused 10

-- ---- what is written to each array

abbrev pub words_to : JobOutcome → List ℕ
words_to (accepted j) = table_words j.layers
words_to (no_room j) = []
words_to malformed = []

abbrev pub colors_to : JobOutcome → List Float
colors_to (accepted j) = table_colors j.layers
colors_to (no_room j) = []
colors_to malformed = []

abbrev pub row_to : JobOutcome → List ℕ
row_to (accepted j) = row_words j.head.row j.segments
row_to (no_room j) = []
row_to malformed = []

-- ---- the outcome in terms of the printer: the text is that of a well-formed job, which is the one that is read, or of none

abbrev pub Says : List ℕ → List ℕ → List Float → List ℕ → JobOutcome → Type 0
Says text layers colors row (accepted j) = Prints text j × (has_room layers colors row j ≡ true)
Says text layers colors row (no_room j) = Prints text j × (has_room layers colors row j ≡ false)
Says text layers colors row malformed = (j : Job) → WellFormed j → text ≡ render j → ⊥

-- ---- the promises

-- what an outcome leaves: the answer, and each array
pub record Left (o : JobOutcome) (layers : List ℕ) (colors : List Float) (row : List ℕ) (r : Result Numbers JobError) (layers' : List ℕ) (colors' : List Float) (row' : List ℕ) : Type 0 where
  pub answer : reading_answer r ≡ answer_to o
  pub words_written : layers' ≡ over (words_to o) layers
  pub colors_written : colors' ≡ over (colors_to o) colors
  pub row_written : row' ≡ over (row_to o) row

pub record JobRead (text layers : List ℕ) (colors : List Float) (row : List ℕ) (r : Result Numbers JobError) (layers' : List ℕ) (colors' : List Float) (row' : List ℕ) : Type 0 where
  pub says : Says text layers colors row (job_outcome text layers colors row)
  pub left : Left (job_outcome text layers colors row) layers colors row r layers' colors' row'

-- ---- what the inner writer asks, and its outcome

-- lines that keep the rules, and how many segments they stand for
pub record LinesJudged (layers : List ℤ) (n : ℕ) (segments : List ℤ) (m count : ℕ) : Type 0 where
  pub layers_long : 8 * n ≤ length layers
  pub segments_long : 7 * m ≤ length segments
  pub layer_rules : all layer_rule (layer_lines layers n) ≡ true
  pub segment_rules : all segment_rule (segments_in segments m) ≡ true
  pub counted : count ≡ segment_count (segments_in segments m)

abbrev pub job_outcome_on : Head → List ℤ → ℕ → List ℤ → ℕ → List ℕ → List Float → List ℕ → JobOutcome
job_outcome_on head ls n ss m layers colors row =
    outcome_by layers colors row (Some (record { head = head; layers = layer_lines ls n; segments = segments_in ss m }))
