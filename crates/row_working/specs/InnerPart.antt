-- What the work on a tile's part asks and gives, whichever tile of whichever row the part is.
use Rattle.std.specs.Prelude.{◌≡◌, ◌*◌, ◌≤◌, Option}
use Rattle.laws.specs.Prelude.{List, ℕ, ℤ, length}
use Rattle.segment_rows.specs.Search.{tile_part}
use Rattle.layer_table.specs.Table.{Table}
use Rattle.styling.specs.declared.Color.{Color}
use Rattle.cached_tile.specs.declared.kept.Kept as kept
use Rattle.tile_layers.specs.InnerWalk.{Walks}
use Rattle.layer_workbench.specs.Work.{Rooms}
use Rattle.row_statements.specs.Lent.{Columns, LentTable}
use Rattle.row_statements.specs.State.{state_in}
use Rattle.row_statements.specs.TileWork.{WorkLent, work_call, GivesWork}
use Rattle.row_statements.specs.InnerWork.{worked_by}
use Rattle.row_statements.specs.declared.RowState.{RowState}
use Rattle.row_statements.specs.declared.TileWorked.{TileWorked}

-- what 1 to 6 leave of a tile: the queue and the tile's part ascend, the table is in order, and there is room
pub record PartJudged (s : RowState) (part : List ℕ) (table : LentTable) (queue : Columns) (lent : WorkLent) : Type 0 where
  pub next_low : s.next ≤ 4094
  pub walks : Walks s.left queue.ids part
  pub covers_long : 16 * s.left ≤ length queue.covers
  pub in_table : Table table.words table.floats table.count
  pub rooms : Rooms lent.list.ids lent.list.covers lent.list.flags lent.list.unmasked lent.queue.ids lent.queue.covers

pub record WorksPart (s : RowState) (part : List ℕ) (table : LentTable) (k : kept.Kept) (clear : Color) (previous : Option Color) (queue : Columns) (lent : WorkLent) (r : TileWorked) (back : WorkLent) : Type 0 where
  pub gives : (tile : ℤ) (row : List ℕ) → part ≡ tile_part tile row → GivesWork (worked_by (work_call (state_in s) tile row table k clear previous queue) lent) r back
