-- d summed up by rows and by columns, over any widths whose local y stays below the height, and at both heights. Assumes nothing.
use Rattle.std.specs.Prelude.{◌≤◌, ◌<◌}
use Rattle.laws.proofs.Prelude.{refl, List, ℕ, zero, suc, add-one, arith}
use Rattle.pixel_segment.specs.Field.{local_y_of, widths_of}
use Rattle.cover_statements.specs.Height.{height_of}
use Rattle.cover_statements.specs.InnerRows.{RowsDone}
use Rattle.cover_statements.specs.Sums.{SumsByRows, SumsByColumns, SumsAnywhere, SumsAtBoth}
use Rattle.cover_statements.proofs.Columns.{Columns, columns_start, columns_next, columns_end}
use Rattle.cover_statements.proofs.Heights.{row_low}
use Rattle.cover_statements.proofs.Rows.{rows_start, rows_end}

module _ (ws : List ℕ) (n : ℕ) (low : (w : ℕ) → local_y_of ws w < n) where
  by_rows : SumsByRows ws n
  by_rows covers part cells areas a step = rows_end (go n (omega arith))
    where
      go : (y : ℕ) → y ≤ n → RowsDone ws n covers part cells y 0 (areas y)
      go zero h = rows_start low a
      go (suc y) h = rw (add-one y) at ((step y (omega arith)).done covers part refl (go y (omega arith)))

  by_columns : SumsByColumns ws n
  by_columns covers part cells areas sums a first step = columns_end (go 16 (omega arith)) (omega arith)
    where
      go : (x : ℕ) → x ≤ 16 → Columns ws n covers part cells x (areas x) (sums x)
      go zero h = rw first (columns_start low a)
      go (suc x) h = rw (add-one x) at (columns_next low (go x (omega arith)) (omega arith) (step x (omega arith)))

pub sums_anywhere : SumsAnywhere
sums_anywhere ws n low = record { by_rows = by_rows ws n low; by_columns = by_columns ws n low }

pub sums_at_both : SumsAtBoth
sums_at_both layout = sums_anywhere (widths_of layout) (height_of layout) (row_low layout)
