-- Reading a job text block by block. proofs/Laws says what this is: the inverse of `render` on well-formed jobs.
use Rattle.std.specs.Prelude.{◌∷◌}
use Rattle.laws.specs.Prelude.{cond, List, [], map, Option, Some, None, ℕ, ltb, eqb, ℤ, pos, length, get_or}
use Rattle.lines.specs.Parse.{parse_block}
use Rattle.job_text_statements.specs.declared.Head.{Head}
use Rattle.job_lines.specs.declared.layer.LayerLine.{LayerLine}
use Rattle.job_lines.specs.declared.segment.SegmentLine.{SegmentLine}
use Rattle.job_text_statements.specs.Text.{Blocks, head_names, layer_names, segment_names}
use Rattle.job_text_statements.specs.Job.{Job, is_allowed}

-- ---- the form

-- after each block: the last one ends the text, and the first one has one line
abbrev pub after_segments : List (List ℤ) → List (List ℤ) → List (List ℤ) → Option (List ℕ) → Option Blocks
after_segments h ls ss None = None
after_segments h ls ss (Some []) = Some (record { head = h; layers = ls; segments = ss })
after_segments h ls ss (Some (b ∷ t)) = None

abbrev pub after_layers : List (List ℤ) → List (List ℤ) → Option (List ℕ) → Option Blocks
after_layers h ls None = None
after_layers h ls (Some t) = after_segments h ls (parse_block segment_names 512 7 t).lines (parse_block segment_names 512 7 t).rest

abbrev pub after_head : List (List ℤ) → Option (List ℕ) → Option Blocks
after_head h None = None
after_head h (Some t) =
    cond (eqb (length h) 1) (after_layers h (parse_block layer_names 64 8 t).lines (parse_block layer_names 64 8 t).rest) None

unfoldable pub parse_blocks : List ℕ → Option Blocks
parse_blocks s = cond (ltb 65536 (length s)) None (after_head (parse_block head_names 1 4 s).lines (parse_block head_names 1 4 s).rest)

-- ---- the job

abbrev pub head_of : List ℤ → Head
head_of vs = record { row = get_or vs 0 (pos 0); tiles = get_or vs 1 (pos 0); from = get_or vs 2 (pos 0); to = get_or vs 3 (pos 0) }

abbrev pub layer_line_of : List ℤ → LayerLine
layer_line_of vs =
    record {
      layer = get_or vs 0 (pos 0);
      rule = get_or vs 1 (pos 0);
      clip = get_or vs 2 (pos 0);
      span = get_or vs 3 (pos 0);
      clipped = get_or vs 4 (pos 0);
      fill = get_or vs 5 (pos 0);
      mode = get_or vs 6 (pos 0);
      alpha = get_or vs 7 (pos 0);
    }

abbrev pub segment_of : List ℤ → SegmentLine
segment_of vs =
    record {
      tile_x = get_or vs 0 (pos 0);
      layer = get_or vs 1 (pos 0);
      x = get_or vs 2 (pos 0);
      y = get_or vs 3 (pos 0);
      rows = get_or vs 4 (pos 0);
      mult = get_or vs 5 (pos 0);
      cover = get_or vs 6 (pos 0);
    }

abbrev pub job_of : Blocks → Job
job_of b = record { head = head_of (get_or b.head 0 []); layers = map layer_line_of b.layers; segments = map segment_of b.segments }

-- the job, where the rules on its values hold
abbrev pub judged : Option Blocks → Option Job
judged None = None
judged (Some b) = cond (is_allowed (job_of b)) (Some (job_of b)) None

unfoldable pub parse : List ℕ → Option Job
parse s = judged (parse_blocks s)
