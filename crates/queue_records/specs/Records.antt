-- A queue lent as a slice of carry records (id, 16 covers), and the columns that it stands for. Stands for 'the queue may be lent as a slice of carry
-- records'.
use Rattle.std.specs.Prelude.{◌/◌}
use Rattle.laws.specs.Prelude.{List, [], map, ℕ, min, ℤ, pos, length, take, replicate, tabulate, over}
use Rattle.cover_statements.specs.Cover.{cover_at}
use Rattle.queue_statements.specs.Queue.{Carry, ids_in, covers_in}
use Rattle.queue_records.specs.declared.CarryRecord.{CarryRecord}
use Rattle.queue_records.specs.declared.Columns.{Columns}

-- a record's id, and its cover at each of the 16 pixel rows
abbrev pub record_carry : CarryRecord → Carry
record_carry r = record { id = r.id; cover = tabulate 16 (λ y. cover_at r.covers y) }

abbrev pub carries_of : List CarryRecord → List Carry
carries_of q = map record_carry q

-- the two columns of the carries
abbrev pub record_ids : List CarryRecord → List ℕ
record_ids q = ids_in (carries_of q)

abbrev pub record_covers : List CarryRecord → List ℤ
record_covers q = covers_in (carries_of q)

-- ---- reading

-- past a queue's end: no contract reads it
abbrev pub no_record : CarryRecord
no_record = record { id = 0; covers = [] }

-- how many records are counted, there, and have room in two columns
abbrev pub readable : ℕ → ℕ → ℕ → ℕ → ℕ
readable count queue ids covers = min (min count queue) (min ids (covers / 16))

-- the records that count, in columns of 256 entries
unfoldable pub columns_of : List CarryRecord → ℕ → Columns
columns_of q count =
    let n = readable count (length q) 256 4096 in
    record {
      entries = min (length q) 256;
      ids = over (record_ids (take n q)) (replicate 256 0);
      covers = over (record_covers (take n q)) (replicate 4096 (pos 0));
    }
