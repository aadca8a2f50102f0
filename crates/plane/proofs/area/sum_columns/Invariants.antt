use Rattle.laws.proofs.Prelude.{List, ℕ}
use Rattle.pixel_segment.specs.Field.{cpu}
use Rattle.cover_statements.specs.InnerCell.{Accumulated}
use Rattle.cover_statements.proofs.Columns.{Columns}
use Rattle.plane.proofs.area.sum_columns.Given as goal

-- of every part with these cells
abbrev pub invariant-loop-column : goal.invariant-loop-column
invariant-loop-column l = (part : List ℕ) → Accumulated cpu 16 part l.initial.areas l.covers → Columns cpu 16 l.initial.sums part l.covers l.column l.areas l.sums
