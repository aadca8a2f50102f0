-- The lent layer table: eight words and four floats a record, and how many records there are. This is the only place that knows how a
-- record lies in memory; all else goes by `table_of`, the list of its layers.
use Rattle.std.specs.Prelude.{◌≡◌, ◌&&◌, ◌+◌, ◌*◌, ◌/◌, ◌≤◌, ◌<◌}
use Rattle.laws.specs.Prelude.{Bool, true, not, List, map, ℕ, min, ltb, length, get_or, Float, nan, tabulate, all}
use Rattle.styling.specs.declared.Color.{Color}
use Rattle.styling.specs.declared.Layer.{Layer}
use Rattle.layer_table.specs.declared.Words.{Words}
use Rattle.styling.specs.Ascending.{strictly_ascends}
use Rattle.layer_table.specs.Record.{in_range, layer_of}

-- ---- the layout

abbrev pub id_at : List ℕ → ℕ → ℕ
id_at words i = get_or words (8 * i) 0

abbrev pub words_at : List ℕ → ℕ → Words
words_at words i =
    record {
      id = id_at words i;
      rule = get_or words (8 * i + 1) 0;
      func = get_or words (8 * i + 2) 0;
      span = get_or words (8 * i + 3) 0;
      clipped = get_or words (8 * i + 4) 0;
      fill = get_or words (8 * i + 5) 0;
      mode = get_or words (8 * i + 6) 0;
      unchanged = get_or words (8 * i + 7) 0;
    }

abbrev pub color_at : List Float → ℕ → Color
color_at floats i = record { r = get_or floats (4 * i) nan; g = get_or floats (4 * i + 1) nan; b = get_or floats (4 * i + 2) nan; a = get_or floats (4 * i + 3) nan }

unfoldable pub layer_at : List ℕ → List Float → ℕ → Layer
layer_at words floats i = layer_of (words_at words i) (color_at floats i)

-- ---- the table

-- the layers of a table of `count` records
unfoldable pub table_of : List ℕ → List Float → ℕ → List Layer
table_of words floats count = tabulate count (layer_at words floats)

-- their ids
unfoldable pub table_ids : List ℕ → ℕ → List ℕ
table_ids words count = tabulate count (id_at words)

-- how many records the lent memory holds
abbrev pub table_room : List ℕ → List Float → ℕ
table_room words floats = min (length words / 8) (length floats / 4)

-- refusal 1: the table is shorter than its count
unfoldable pub is_table_short : List ℕ → List Float → ℕ → Bool
is_table_short words floats count = ltb (table_room words floats) count

-- what refusal 4 asks of the records: each in range, and their ids strictly ascending
unfoldable pub is_valid : List Words → Bool
is_valid records = all in_range records && strictly_ascends (map (λ w. w.id) records)

-- neither 1 nor 4 applies. Where 1 does not, 4 is that this does not hold
unfoldable pub is_table : List ℕ → List Float → ℕ → Bool
is_table words floats count = not (is_table_short words floats count) && is_valid (tabulate count (words_at words))

-- what holds where neither applies (proofs/Judging), as inner functions ask it
pub record Table (words : List ℕ) (floats : List Float) (count : ℕ) : Type 0 where
  pub words_long : 8 * count ≤ length words
  pub floats_long : 4 * count ≤ length floats
  pub ascending : strictly_ascends (table_ids words count) ≡ true
  pub in_range_lem : (i : ℕ) → i < count → in_range (words_at words i) ≡ true
