-- The memory that a caller lends to a row's operations: a queue's two columns, the four of a tile's list, a layer table. How carries and a list lie
-- in it, what is written over it, and refusal 1 of each. Stands for 'lent arrays with counts' and for condition 1 of 'Turned down'.
use Rattle.std.specs.Prelude.{◌||◌, ◌/◌}
use Rattle.laws.specs.Prelude.{Bool, List, ℕ, ltb, Float, ℤ, length, over}
use Rattle.layer_table.specs.Table as table
use Rattle.styling.specs.declared.Layer.{Layer}
use Rattle.queue_statements.specs.Queue as queue
use Rattle.queue_statements.specs.Queue.{Carry, queue_of, ids_in, covers_in}
use Rattle.tile_layers.specs.Listing.{Listed, incoming_of, flags_over}
use Rattle.pass_statements.specs.Entry.{Entry, entries_of}

-- ---- a queue: layer ids, and 16 covers for each

pub record Columns : Type 0 where
  pub ids : List ℕ
  pub covers : List ℤ

abbrev pub columns : List ℕ → List ℤ → Columns
columns ids covers = record { ids = ids; covers = covers }

-- its first n carries
abbrev pub carries_in : ℕ → Columns → List Carry
carries_in n k = queue_of n k.ids k.covers

-- 1: fewer than 256 entries
abbrev pub is_queue_short : Columns → Bool
is_queue_short k = queue.are_columns_short k.ids k.covers

-- carries written over what the columns held
abbrev pub queue_over : List Carry → Columns → Columns
queue_over q k = record { ids = over (ids_in q) k.ids; covers = over (covers_in q) k.covers }

-- ---- a tile's list: layer ids, incoming covers, two flags of each layer (that at its place says whether it has segments in the tile, that 256 places
-- behind whether it is changed), and whether it is not masked off

pub record ListColumns : Type 0 where
  pub ids : List ℕ
  pub covers : List ℤ
  pub flags : List Bool
  pub unmasked : List Bool

abbrev pub list_columns : List ℕ → List ℤ → List Bool → List Bool → ListColumns
list_columns ids covers flags unmasked = record { ids = ids; covers = covers; flags = flags; unmasked = unmasked }

-- its first n entries
abbrev pub entries_in : ℕ → ListColumns → List Entry
entries_in n l = entries_of n l.ids l.covers l.flags

-- 1: fewer than 256 entries, in the three columns that say what is listed, and in all four; an entry has two flags
abbrev pub are_entries_short : List ℕ → List ℤ → List Bool → Bool
are_entries_short ids covers flags = ltb (length ids) 256 || ltb (length covers / 16) 256 || ltb (length flags) 512

abbrev pub is_list_short : ListColumns → Bool
is_list_short l = are_entries_short l.ids l.covers l.flags || ltb (length l.unmasked) 256

-- layers, with their marks by the table, and which of them are not masked off, written over what the columns held
abbrev pub list_over : List Layer → List Listed → List Bool → ListColumns → ListColumns
list_over table ls unmasked l =
    record {
      ids = over (ids_in (incoming_of ls)) l.ids;
      covers = over (covers_in (incoming_of ls)) l.covers;
      flags = flags_over table ls l.flags;
      unmasked = over unmasked l.unmasked;
    }

-- ---- a layer table: the words and colours of its records, and how many there are

pub record LentTable : Type 0 where
  pub words : List ℕ
  pub floats : List Float
  pub count : ℕ

abbrev pub lent_table : List ℕ → List Float → ℕ → LentTable
lent_table words floats count = record { words = words; floats = floats; count = count }

abbrev pub layers_of : LentTable → List Layer
layers_of t = table.table_of t.words t.floats t.count

-- 1: shorter than its count
abbrev pub is_lent_short : LentTable → Bool
is_lent_short t = table.is_table_short t.words t.floats t.count

-- neither 1 nor 4 applies
abbrev pub is_lent_table : LentTable → Bool
is_lent_table t = table.is_table t.words t.floats t.count
