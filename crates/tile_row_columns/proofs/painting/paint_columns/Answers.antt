-- `painting::paint_columns` meets its contract: the columns are lent as far as they count.
-- Assumes nothing.
use Rattle.laws.proofs.Prelude.{to_z-of_z}
use Rattle.row_statements.specs.Lent.{lent_table}
use Rattle.row_statements.specs.State.{state_in}
use Rattle.row_statements.specs.Painting.{paint_call}
use Rattle.tile_row_columns.specs.Lent.{lent_columns}
use Rattle.tile_row_columns.proofs.Lending.{painted_lent}
use Rattle.tile_row_columns.proofs.painting.paint_columns.Goals as goal

pub returns : goal.returns
returns c =
    let n = c.lesser-n in
    let a = c.args in
    painted_lent
    (paint_call (state_in a.state) a.tile a.layer a.row.now (lent_table a.layers.now a.colors.now a.count) (lent_columns a.columns))
    a.plane.now
    a.columns
    n.result
    n.ensures
    (rw (to_z-of_z c.ranges.tile) at c.paint_layer.ensures)
