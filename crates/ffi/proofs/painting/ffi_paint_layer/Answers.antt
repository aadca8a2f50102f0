-- `painting::ffi_paint_layer` meets its contract. It tells what painting answers. Assumes nothing.
use Rattle.laws.proofs.Prelude.{to_z-of_z}
use Rattle.row_statements.specs.Lent.{columns, lent_table}
use Rattle.row_statements.specs.State.{State}
use Rattle.row_statements.specs.Painting.{paint_call}
use Rattle.ffi.proofs.Told.{painted}
use Rattle.ffi.proofs.painting.ffi_paint_layer.Goals as goal

pub returns : goal.returns
returns c =
    let a = c.args in
    painted
    (λ (x : State). paint_call x a.tile a.layer a.row.now (lent_table a.layers.now a.colors.now a.count) (columns a.ids.now a.covers.now))
    a.plane.now
    c.to_state.ensures
    (rw (to_z-of_z c.ranges.tile) at c.paint_layer-painted.ensures)
    (c.put_painted.ensures.value, c.put_painted.ensures.mark_after)
