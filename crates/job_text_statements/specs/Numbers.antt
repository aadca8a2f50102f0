-- The lines of a job as they lie in lists of numbers, one line after another.
use Rattle.std.specs.Prelude.{◌+◌, ◌*◌}
use Rattle.laws.specs.Prelude.{List, ℕ, ℤ, pos, get_or, tabulate}
use Rattle.job_lines.specs.declared.layer.LayerLine.{LayerLine}
use Rattle.job_lines.specs.declared.segment.SegmentLine.{SegmentLine}
use Rattle.job_text_statements.specs.Job.{Job}
use Rattle.job_text_statements.specs.Parse.{head_of}

abbrev pub number_at : List ℤ → ℕ → ℤ
number_at ns k = get_or ns k (pos 0)

unfoldable pub layer_line_at : List ℤ → ℕ → LayerLine
layer_line_at ns i =
    record {
      layer = number_at ns (8 * i);
      rule = number_at ns (8 * i + 1);
      clip = number_at ns (8 * i + 2);
      span = number_at ns (8 * i + 3);
      clipped = number_at ns (8 * i + 4);
      fill = number_at ns (8 * i + 5);
      mode = number_at ns (8 * i + 6);
      alpha = number_at ns (8 * i + 7);
    }

unfoldable pub segment_at : List ℤ → ℕ → SegmentLine
segment_at ns i =
    record {
      tile_x = number_at ns (7 * i);
      layer = number_at ns (7 * i + 1);
      x = number_at ns (7 * i + 2);
      y = number_at ns (7 * i + 3);
      rows = number_at ns (7 * i + 4);
      mult = number_at ns (7 * i + 5);
      cover = number_at ns (7 * i + 6);
    }

-- the first n lines
abbrev pub layer_lines : List ℤ → ℕ → List LayerLine
layer_lines ns n = tabulate n (layer_line_at ns)

abbrev pub segments_in : List ℤ → ℕ → List SegmentLine
segments_in ns n = tabulate n (segment_at ns)

abbrev pub job_in : List ℤ → List ℤ → ℕ → List ℤ → ℕ → Job
job_in head layers n segments m = record { head = head_of head; layers = layer_lines layers n; segments = segments_in segments m }
