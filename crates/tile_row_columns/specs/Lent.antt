-- A queue of carry records as columns, and how the code lends what it read of the records: as many entries of the columns as the slice has records, 256
-- at most, so that refusal 1 is told from the columns as from the records.
use Rattle.std.specs.Prelude.{◌*◌}
use Rattle.laws.specs.Prelude.{List, ℕ, min, take}
use Rattle.queue_records.specs.Records.{record_ids, record_covers}
use Rattle.queue_records.specs.declared.CarryRecord.{CarryRecord}
use Rattle.queue_records.specs.declared.Columns as read
use Rattle.row_statements.specs.Lent.{Columns, columns}

-- the columns that the records stand for
abbrev pub columns_for : List CarryRecord → Columns
columns_for q = columns (record_ids q) (record_covers q)

-- n entries of what was read
abbrev pub entries_lent : ℕ → read.Columns → Columns
entries_lent n c = columns (take n c.ids) (take (n * 16) c.covers)

abbrev pub lent_columns : read.Columns → Columns
lent_columns c = entries_lent (min c.entries 256) c
