-- What a caller of works and batches relies on when it lends planes: an accepted work lists at most 256 layers, and at most as many as its table has records.
-- So there is room for all paintings of a tile where so many planes are free (batch_statements/specs/BatchLent, `room_for`).
use Rattle.std.specs.Prelude.{◌≡◌, ◌≤◌}
use Rattle.laws.specs.Prelude.{min, given}
use Rattle.segment_rows.specs.Rows.{Words}
use Rattle.row_statements.specs.TileWork.{WorkCall, WorkLent, TileAnswer, work_of}

abbrev pub ListsFew : Type 0
ListsFew = (c : WorkCall) (lent : WorkLent) (t : TileAnswer) → Words c.row → (work_of c lent).answer ≡ given t → t.listed ≤ min 256 c.table.count
