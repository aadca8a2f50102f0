-- A job, its text, and which jobs are well formed. The printer `render` defines the form of the text: a text that is malformed (number 10) is
-- one that no well-formed job prints to.
use Rattle.std.specs.Prelude.{◌≡◌, ◌&&◌, ◌∷◌}
use Rattle.laws.specs.Prelude.{Bool, true, List, [], map, ℕ, leb, ℤ, all}
use Rattle.job_text_statements.specs.declared.Head.{Head}
use Rattle.job_lines.specs.declared.layer.LayerLine.{LayerLine}
use Rattle.job_lines.specs.declared.segment.SegmentLine.{SegmentLine}
use Rattle.job_text_statements.specs.Text.{Blocks, blocks_text, Formed}
use Rattle.job_lines.specs.Rules.{layer_rule, segment_rule, segment_count}

pub record Job : Type 0 where
  pub head : Head
  pub layers : List LayerLine
  pub segments : List SegmentLine

-- the values of a line, in the order of the names
abbrev pub head_values : Head → List ℤ
head_values h = h.row ∷ h.tiles ∷ h.from ∷ h.to ∷ []

abbrev pub layer_values : LayerLine → List ℤ
layer_values l = l.layer ∷ l.rule ∷ l.clip ∷ l.span ∷ l.clipped ∷ l.fill ∷ l.mode ∷ l.alpha ∷ []

abbrev pub segment_values : SegmentLine → List ℤ
segment_values s = s.tile_x ∷ s.layer ∷ s.x ∷ s.y ∷ s.rows ∷ s.mult ∷ s.cover ∷ []

abbrev pub blocks_of : Job → Blocks
blocks_of j =
    record { head = head_values j.head ∷ []; layers = map layer_values j.layers; segments = map segment_values j.segments }

unfoldable pub render : Job → List ℕ
render j = blocks_text (blocks_of j)

-- the rules on the values
unfoldable pub is_allowed : Job → Bool
is_allowed j = all layer_rule j.layers && all segment_rule j.segments && leb (segment_count j.segments) 2048

pub record WellFormed (j : Job) : Type 0 where
  pub form : Formed (blocks_of j)
  pub rules : is_allowed j ≡ true

-- the text is that of a well-formed job
pub record Prints (text : List ℕ) (j : Job) : Type 0 where
  pub form : WellFormed j
  pub printed : text ≡ render j
