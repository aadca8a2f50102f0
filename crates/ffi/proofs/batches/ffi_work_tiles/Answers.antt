-- `batches::ffi_work_tiles` meets its contract. It tells what the batch answers. Assumes nothing.
use Rattle.laws.proofs.Prelude.{to_z-of_z}
use Rattle.row_statements.specs.Lent.{columns, lent_table}
use Rattle.row_statements.specs.State.{State}
use Rattle.batch_statements.specs.BatchLent.{batch_lent}
use Rattle.batch_statements.specs.Batch.{batch_row, batch_call}
use Rattle.ffi.specs.Layers.{color_from, previous_of}
use Rattle.ffi.proofs.Told.{batched}
use Rattle.ffi.proofs.batches.ffi_work_tiles.Goals as goal

pub returns : goal.returns
returns c =
    let a = c.args in
    batched
    (λ (x : State). batch_call x a.tile a.tiles (batch_row a.row.now (lent_table a.layers.now a.colors.now a.count) a.keeps (color_from a.clear.now) (previous_of a.is_previous a.previous.now)))
    (batch_lent (columns a.a_ids.now a.a_covers.now) (columns a.b_ids.now a.b_covers.now) a.kept.now a.told.now a.bottoms.now a.planes.now a.painted.now)
    c.to_state.ensures
    (rw (c.to_color.ensures, c.to_previous.ensures, to_z-of_z c.ranges.tile) at c.work_tiles-batch.ensures)
    (c.put_batch.ensures.value, c.put_batch.ensures.done_after)
