-- What the readers of a job's numbers promise.
use Rattle.std.specs.Prelude.{◌≡◌, ◌≤◌, Option}
use Rattle.laws.specs.Prelude.{List, flatten, Some, None, ℕ, ℤ, length, sets}
use Rattle.job_text_statements.specs.declared.Counts.{Counts}
use Rattle.job_text_statements.specs.Text.{Blocks}
use Rattle.job_lines.specs.Rules.{segment_count}
use Rattle.job_text_statements.specs.Parse.{parse_blocks, parse}
use Rattle.job_text_statements.specs.Numbers.{job_in, segments_in}

-- the values of the blocks stand at the front of the lent lists, one line after another
pub record BlocksStored (s : List ℕ) (head layers segments : List ℤ) (n m : ℕ) (head' layers' segments' : List ℤ) : Type 0 where
  pub blocks : Blocks
  pub parsed : parse_blocks s ≡ Some blocks
  pub layer_lines : n ≡ length blocks.layers
  pub segment_lines : m ≡ length blocks.segments
  pub head_stored : head' ≡ sets head 0 (flatten blocks.head)
  pub layers_stored : layers' ≡ sets layers 0 (flatten blocks.layers)
  pub segments_stored : segments' ≡ sets segments 0 (flatten blocks.segments)

-- of a broken form nothing is said of the lists
abbrev pub BlocksRead : List ℕ → List ℤ → List ℤ → List ℤ → Option (ℕ × ℕ) → List ℤ → List ℤ → List ℤ → Type 0
BlocksRead s head layers segments (Some (n, m)) head' layers' segments' = BlocksStored s head layers segments n m head' layers' segments'
BlocksRead s head layers segments None head' layers' segments' = parse_blocks s ≡ None

-- the job of the text is the one whose lines stand in the lists
pub record NumbersStored (s : List ℕ) (n m count : ℕ) (head layers segments : List ℤ) : Type 0 where
  pub parsed : parse s ≡ Some (job_in head layers n segments m)
  pub few_layers : n ≤ 64
  pub few_lines : m ≤ 512
  pub counted : count ≡ segment_count (segments_in segments m)
  pub few_segments : count ≤ 2048

abbrev pub NumbersRead : List ℕ → Option Counts → List ℤ → List ℤ → List ℤ → Type 0
NumbersRead s (Some c) head layers segments = NumbersStored s c.layers c.lines c.segments head layers segments
NumbersRead s None head layers segments = parse s ≡ None
