-- The part of a tile of a row that 1 to 6 were judged of. Assumes nothing.
use Rattle.std.specs.Prelude.{◌≡◌, Option}
use Rattle.laws.proofs.Prelude.{List, ℕ, ℤ}
use Rattle.segment_rows.specs.Search.{tile_part}
use Rattle.styling.specs.declared.Color.{Color}
use Rattle.cached_tile.specs.declared.kept.Kept as kept
use Rattle.row_statements.specs.Lent.{Columns, LentTable}
use Rattle.row_statements.specs.State.{state_in}
use Rattle.row_statements.specs.TileWork.{WorkLent, work_call}
use Rattle.row_statements.specs.InnerWork.{WorkJudged}
use Rattle.row_statements.specs.declared.RowState.{RowState}
use Rattle.row_working.specs.InnerPart.{PartJudged}

pub part_judged : {part : List ℕ} (s : RowState) (tile : ℤ) (row : List ℕ) (table : LentTable) (k : kept.Kept) (clear : Color) (previous : Option Color) (queue : Columns) (lent : WorkLent)
    → part ≡ tile_part tile row → WorkJudged (work_call (state_in s) tile row table k clear previous queue) lent → PartJudged s part table queue lent
part_judged s tile row table k clear previous queue lent e j =
    record { next_low = j.next_low; walks = rw e j.walks; covers_long = j.covers_long; in_table = j.in_table; rooms = j.rooms }
