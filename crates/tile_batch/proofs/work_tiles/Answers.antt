-- `work_tiles` meets its contract. Assumes nothing.
use Rattle.laws.proofs.Prelude.{sym, ◌∙◌, to_z-of_z}
use Rattle.row_statements.specs.Lent.{columns, lent_table}
use Rattle.batch_statements.specs.BatchLent.{BatchLent, batch_lent}
use Rattle.batch_statements.specs.Batch.{BatchRow, batch_row}
use Rattle.tile_batch.proofs.Starting.{batch_ended, passes, startable, batch_passed}
use Rattle.tile_batch.proofs.work_tiles.Goals as goal
use Rattle.tile_batch.proofs.work_tiles.Goals.{Start}

abbrev row_of : Start → BatchRow
row_of s = let a = s.args in batch_row a.row.now (lent_table a.layers.now a.colors.now a.count) a.keeps a.clear a.previous

abbrev lent_of : Start → BatchLent
lent_of s =
    let a = s.args in
    batch_lent (columns a.a_ids.now a.a_covers.now) (columns a.b_ids.now a.b_covers.now) a.kept.now a.told.now a.bottoms.now a.planes.now a.painted.now

pub work_many-requires : goal.work_many-requires
work_many-requires c =
    let a = c.args in
    let s = (goal.at.work_many-requires c).Start in
    let passed =
    passes a.state a.tile a.tiles (row_of s) (lent_of s) c.judge_first-verdict.result
    (rw (c.started-begun.ensures, c.room_in-room.ensures) at c.goes_on-goes.ensures)
    (rw (to_z-of_z c.ranges.tile) at c.judge_first-verdict.ensures)
    (sym (rw (c.started-at.ensures, c.room_in-room.ensures) at c.goes_on.ensures) ∙ c.if-goes_on.true) in
    rw c.room_in-room.ensures (startable a.state a.tile a.tiles (row_of s) (lent_of s) passed (record { small = λ i. (c.type_inv.row i).fits }))

pub returns-then-goes_on : goal.returns-then-goes_on
returns-then-goes_on c =
    let a = c.args in
    let s = (goal.at.returns-then-goes_on c).Start in
    let passed =
    passes a.state a.tile a.tiles (row_of s) (lent_of s) c.judge_first-verdict.result
    (rw (c.started-begun.ensures, c.room_in-room.ensures) at c.goes_on-goes.ensures)
    (rw (to_z-of_z c.ranges.tile) at c.judge_first-verdict.ensures)
    (sym (rw (c.started-at.ensures, c.room_in-room.ensures) at c.goes_on.ensures) ∙ c.if-goes_on.true) in
    batch_passed a.state a.tile a.tiles (row_of s) (lent_of s) passed (rw c.room_in-room.ensures at c.work_many.ensures)

pub returns-else-goes_on : goal.returns-else-goes_on
returns-else-goes_on c =
    let a = c.args in
    batch_ended a.state a.tile a.tiles (row_of (goal.at.returns-else-goes_on c).Start) (lent_of (goal.at.returns-else-goes_on c).Start) c.judge_first-verdict.result
    (rw (c.started-begun.ensures, c.room_in-room.ensures) at c.goes_on-goes.ensures)
    (rw (to_z-of_z c.ranges.tile) at c.judge_first-verdict.ensures)
    (sym (rw (c.started-at.ensures, c.room_in-room.ensures) at c.goes_on.ensures) ∙ c.if-goes_on.false)
    (rw c.started-at.ensures at c.ended.ensures)
