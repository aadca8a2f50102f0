-- The job text: what is read is exactly what prints so, and every word reads back as the text's numbers. Stands for document 01, 'The row program', and for
-- W-203.
use Rattle.std.specs.Prelude.{◌≡◌, ◌∷◌, ◌<◌, ◌≤◌, ◌+ℤ◌}
use Rattle.laws.specs.Prelude.{Some, List, [], true, ℕ, ℤ, pos, negsuc, length, get_or, plus, minus}
use Rattle.job_text_statements.specs.Job.{Job, WellFormed, render, Prints}
use Rattle.job_text_statements.specs.Parse.{parse}
use Rattle.job_lines.specs.declared.segment.SegmentLine.{SegmentLine}
use Rattle.job_lines.specs.Rules.{segment_rule}
use Rattle.job_statements.specs.Row.{is_tile_y, segment_word, row_tile}
use Rattle.lines.specs.Bytes.{bytes}
use Rattle.lines.specs.Text.{line_text}
use Rattle.pixel_segment.specs.Pack.{ReadsBack}
use Rattle.pixel_segment.specs.Field.{cpu}

pub record JobTexts : Type 0 where
  pub complete : (j : Job) → WellFormed j → parse (render j) ≡ Some j
  -- a job that is read is well formed, and the text is its print
  pub sound : (s : List ℕ) (j : Job) → parse s ≡ Some j → Prints s j
  -- and the word reads back as the numbers of the text, i pixel rows down
  pub read_back : (s : SegmentLine) (ok : segment_rule s ≡ true) (ty : ℤ) (t : is_tile_y ty ≡ true) (i : ℕ) (h : i < plus s.rows) →
      ReadsBack cpu (segment_word ty s i) s.layer s.tile_x ty s.x (s.y +ℤ pos i) s.mult s.cover
  -- every word of an accepted text reads back as the text's numbers, where the row is 0 to 2,046: of each line, each repeat
  pub text_reads_back : (j : Job) → WellFormed j → minus j.head.row ≡ 0 → plus j.head.row ≤ 2046 → (d : SegmentLine) (k i : ℕ) →
      k < length j.segments → i < plus (get_or j.segments k d).rows →
      ReadsBack cpu (segment_word (row_tile j.head.row) (get_or j.segments k d) i) (get_or j.segments k d).layer
      (get_or j.segments k d).tile_x j.head.row (get_or j.segments k d).x ((get_or j.segments k d).y +ℤ pos i)
      (get_or j.segments k d).mult (get_or j.segments k d).cover
  -- a line of numbers, printed
  pub line : line_text (pos 0 ∷ negsuc 15 ∷ pos 4094 ∷ []) ≡ bytes "0 -16 4094\n"
