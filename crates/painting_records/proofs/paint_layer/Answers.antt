-- `paint_layer` meets its contract: the painting with the columns that were read is the painting with the records' own. Assumes nothing.
use Rattle.laws.proofs.Prelude.{to_z-of_z}
use Rattle.row_statements.specs.Lent.{lent_table}
use Rattle.row_statements.specs.State.{state_in}
use Rattle.row_statements.specs.Painting.{paint_call}
use Rattle.tile_row_columns.specs.Lent.{columns_for}
use Rattle.tile_row_columns.proofs.SameAnswers.{painted_records}
use Rattle.painting_records.proofs.paint_layer.Goals as goal

pub returns : goal.returns
returns c =
    let a = c.args in
    painted_records
    (paint_call (state_in a.state) a.tile a.layer a.row.now (lent_table a.layers.now a.colors.now a.count) (columns_for a.queue.now))
    a.plane.now a.queue.now c.read_columns-columns.result c.read_columns-columns.ensures
    (rw (to_z-of_z c.ranges.tile) at c.paint_columns.ensures)
