-- `working::ffi_work_tile` meets its contract. It tells what the work answers. Assumes nothing.
use Rattle.laws.proofs.Prelude.{to_z-of_z}
use Rattle.row_statements.specs.Lent.{columns, list_columns, lent_table}
use Rattle.row_statements.specs.State.{State}
use Rattle.row_statements.specs.TileWork.{work_call, work_lent}
use Rattle.ffi_numbers.specs.Cached.{kept_of}
use Rattle.ffi.specs.Layers.{color_from, previous_of}
use Rattle.ffi.proofs.Told.{worked}
use Rattle.ffi.proofs.working.ffi_work_tile.Goals as goal

pub returns : goal.returns
returns c =
    let a = c.args in
    worked
    (λ (x : State). work_call x a.tile a.row.now (lent_table a.layers.now a.colors.now a.count) (kept_of a.is_kept a.kept.now) (color_from a.clear.now) (previous_of a.is_previous a.previous.now) (columns a.ids.now a.covers.now))
    (work_lent (columns a.next_ids.now a.next_covers.now) (list_columns a.list_ids.now a.list_covers.now a.list_flags.now a.list_unmasked.now))
    c.to_state.ensures
    (rw (c.to_tile.ensures, c.to_color.ensures, c.to_previous.ensures, to_z-of_z c.ranges.tile) at c.work_tile-worked.ensures)
    (c.put_worked.ensures.value, c.put_worked.ensures.bottom_after)
