-- `working::work_tile` meets its contract: the work with the columns that were read is the work with the records' own. Assumes nothing.
use Rattle.laws.proofs.Prelude.{to_z-of_z}
use Rattle.row_statements.specs.Lent.{columns, list_columns, lent_table}
use Rattle.row_statements.specs.State.{state_in}
use Rattle.row_statements.specs.TileWork.{work_call, work_lent}
use Rattle.tile_row_columns.specs.Lent.{columns_for}
use Rattle.tile_row_columns.proofs.SameAnswers.{worked_records}
use Rattle.tile_row_records.proofs.working.work_tile.Goals as goal

pub returns : goal.returns
returns c =
    let a = c.args in
    worked_records
    (work_call (state_in a.state) a.tile a.row.now (lent_table a.layers.now a.colors.now a.count) a.kept a.clear a.previous (columns_for a.queue.now))
    (work_lent (columns a.next_ids.now a.next_covers.now) (list_columns a.list_ids.now a.list_covers.now a.list_flags.now a.list_unmasked.now))
    a.queue.now c.read_columns-columns.result c.read_columns-columns.ensures
    (rw (to_z-of_z c.ranges.tile) at c.work_columns.ensures)
