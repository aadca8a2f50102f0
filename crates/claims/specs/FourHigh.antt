-- A tile four pixels high is rows 0 to 3 of one 16 high with the same segments. Stands for W-213, 'carry and coverage are held to the same working from the
-- whole row as at 16'.
use Rattle.std.specs.Prelude.{◌≡◌}
use Rattle.laws.specs.Prelude.{List, ℕ, take}
use Rattle.pixel_segment.specs.Field.{cpu, gpu}
use Rattle.styling.specs.declared.FillRule.{FillRule}
use Rattle.cover_statements.specs.WholeRow.{row_plane}
use Rattle.layer_row_gpu.specs.Apart.{SegmentNumbers, PackedRow}

abbrev pub RowsApart : Type 0
RowsApart =
    (ns : List SegmentNumbers) (row row' : List ℕ) → PackedRow gpu ns row → PackedRow cpu ns row' → (rule : FillRule) (tile layer : ℕ) →
    row_plane gpu 4 rule tile layer row ≡ take 64 (row_plane cpu 16 rule tile layer row')
