-- `records::work_records` meets its contract: the records have the columns. Assumes nothing.
use Rattle.laws.proofs.Prelude.{to_z-of_z}
use Rattle.tile_row_records.proofs.records.work_records.Goals as goal

pub returns : goal.returns
returns c =
    let made = c.records_of-queue.ensures in
    rw (to_z-of_z c.ranges.tile, made.0, made.1) at c.work_array.ensures
