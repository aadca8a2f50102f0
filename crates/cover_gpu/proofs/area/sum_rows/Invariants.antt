use Rattle.laws.proofs.Prelude.{List, ℕ}
use Rattle.pixel_segment.specs.Field.{gpu}
use Rattle.cover_statements.specs.InnerCell.{Accumulated}
use Rattle.cover_statements.specs.InnerRows.{RowsDone}
use Rattle.cover_gpu.proofs.area.sum_rows.Given as goal

-- of every part with these cells
abbrev pub invariant-loop-y : goal.invariant-loop-y
invariant-loop-y l = (part : List ℕ) → Accumulated gpu 4 part l.initial.areas l.covers → RowsDone gpu 4 l.incoming part l.covers l.y 0 l.areas
