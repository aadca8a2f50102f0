-- What answering a line promises: every byte of the answer, at the front of a buffer that has room for it, and with it what holds of every load.
use Rattle.std.specs.Prelude.{◌∷◌}
use Rattle.laws.specs.Prelude.{List, [], ℕ, tabulate}
use Rattle.lines.specs.Text.{block_text}
use Rattle.job_text_statements.specs.Text.{head_names, layer_names, segment_names}
use Rattle.job_text_statements.specs.Job.{head_values, layer_values, segment_values}
use Rattle.report.specs.Put.{LineWritten}
use Rattle.load_statements.specs.declared.Asked.{Asked}
use Rattle.load_statements.specs.Load.{load_head, load_layer, load_segment}
use Rattle.load_statements.specs.Input.{ask}
use Rattle.load_statements.specs.Answer.{load_answer_text}
use Rattle.load_statements.specs.Made.{LoadTells}

pub record LoadAnswered (text out : List ℕ) (r : ℕ) (out' : List ℕ) : Type 0 where
  pub written : LineWritten (load_answer_text text) out r out'
  pub tells : LoadTells text (ask text)

-- ---- the blocks of a load's text, as the inner writers print them

unfoldable pub head_block : ℕ → List ℕ
head_block tiles = block_text head_names (head_values (load_head tiles) ∷ [])

-- every load has the same layers
unfoldable pub layers_block : List ℕ
layers_block = block_text layer_names (tabulate 8 (λ i. layer_values (load_layer i)))

unfoldable pub segments_block : Asked → List ℕ
segments_block a = block_text segment_names (tabulate a.count (λ k. segment_values (load_segment a k)))
