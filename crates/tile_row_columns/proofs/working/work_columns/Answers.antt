-- `working::work_columns` meets its contract: the columns are lent as far as they count.
-- Assumes nothing.
use Rattle.laws.proofs.Prelude.{to_z-of_z}
use Rattle.row_statements.specs.Lent.{columns, list_columns, lent_table}
use Rattle.row_statements.specs.State.{state_in}
use Rattle.row_statements.specs.TileWork.{work_call, work_lent}
use Rattle.tile_row_columns.specs.Lent.{lent_columns}
use Rattle.tile_row_columns.proofs.Lending.{worked_lent}
use Rattle.tile_row_columns.proofs.working.work_columns.Goals as goal

pub returns : goal.returns
returns c =
    let n = c.lesser-n in
    let a = c.args in
    worked_lent
    (work_call (state_in a.state) a.tile a.row.now (lent_table a.layers.now a.colors.now a.count) a.kept a.clear a.previous (lent_columns a.columns))
    (work_lent (columns a.next_ids.now a.next_covers.now) (list_columns a.list_ids.now a.list_covers.now a.list_flags.now a.list_unmasked.now))
    a.columns
    n.result
    n.ensures
    (rw (to_z-of_z c.ranges.tile) at c.work_tile.ensures)
