-- One record as it is sent, and how records lie in lent memory. Stands for 'a record carries a layer id, a revision number of 32 bits, and
-- either properties or a withdrawal' (document 02, W-212). The properties are the words and the colour of a record of the layer table; the
-- layer id is the first of these words. Of a withdrawal the other words and the colour play no part.
use Rattle.std.specs.Prelude.{◌&&◌, ◌+◌, ◌*◌, ◌/◌}
use Rattle.laws.specs.Prelude.{Bool, cond, List, ℕ, min, leb, eqb, Float, length, get_or, tabulate}
use Rattle.styling.specs.declared.Color.{Color}
use Rattle.layer_table.specs.declared.Words.{Words}
use Rattle.layer_table.specs.Record.{layer_limit, in_range}
use Rattle.layer_table.specs.Table.{color_at}

pub record Sent : Type 0 where
  pub revision : ℕ
  pub kind : ℕ
  pub words : Words
  pub color : Color

-- the layer that a record is of
abbrev pub id_of : Sent → ℕ
id_of s = s.words.id

-- kind 0 has properties, kind 1 is a withdrawal
abbrev pub has_properties : Sent → Bool
has_properties s = eqb s.kind 0

-- number 4 does not apply: of properties every word is in the range that a layer table asks, of a withdrawal the id
unfoldable pub is_good : Sent → Bool
is_good s = cond (has_properties s) (in_range s.words) (leb (id_of s) layer_limit && eqb s.kind 1)

-- ---- the layout: ten words a record (id, revision, kind, rule, func, span, clipped, fill, mode, unchanged), and four floats

abbrev pub sent_words_at : List ℕ → ℕ → Words
sent_words_at records i =
    record {
      id = get_or records (10 * i) 0;
      rule = get_or records (10 * i + 3) 0;
      func = get_or records (10 * i + 4) 0;
      span = get_or records (10 * i + 5) 0;
      clipped = get_or records (10 * i + 6) 0;
      fill = get_or records (10 * i + 7) 0;
      mode = get_or records (10 * i + 8) 0;
      unchanged = get_or records (10 * i + 9) 0;
    }

unfoldable pub sent_at : List ℕ → List Float → ℕ → Sent
sent_at records floats i =
    record {
      revision = get_or records (10 * i + 1) 0;
      kind = get_or records (10 * i + 2) 0;
      words = sent_words_at records i;
      color = color_at floats i;
    }

-- how many records the lent memory holds: each has its ten words and its four floats. What is left over plays no part
abbrev pub sent_room : List ℕ → List Float → ℕ
sent_room records floats = min (length records / 10) (length floats / 4)

-- the first n records of the lent memory
unfoldable pub first_sent : List ℕ → List Float → ℕ → List Sent
first_sent records floats n = tabulate n (sent_at records floats)

-- all of them
abbrev pub sent_of : List ℕ → List Float → List Sent
sent_of records floats = first_sent records floats (sent_room records floats)
