-- What the inner functions promise: an entry of the table by its place, a line's fields as packing takes them, and a packed word.
-- proofs/Tables and proofs/Rows say that these are the entries of `table_words`, `table_colors` and `row_words`.
use Rattle.std.specs.Prelude.{◌≡◌, ◌+◌, ◌*◌, ◌/◌, ◌%◌}
use Rattle.laws.specs.Prelude.{Bool, cond, List, ℕ, eqb, Float, ℤ, pos, sets, plus}
use Rattle.pixel_segment.specs.Field.{cpu}
use Rattle.pixel_segment.specs.Pack.{word_of, is_packable}
use Rattle.job_lines.specs.declared.segment.SegmentLine.{SegmentLine}
use Rattle.job_text_statements.specs.Numbers.{number_at}
use Rattle.job_statements.specs.declared.row.Fields.{Fields}
use Rattle.job_statements.specs.Table.{pattern, alpha_of, zero_float}
use Rattle.job_statements.specs.Row.{segment_words}

unfoldable pub word_at : List ℤ → ℕ → ℕ
word_at ns k = cond (eqb (k % 8) 7) 0 (pattern (number_at ns k))

unfoldable pub job_color_at : List ℤ → ℕ → Float
job_color_at ns k = cond (eqb (k % 4) 3) (alpha_of (plus (number_at ns (8 * (k / 4) + 7)))) zero_float

abbrev pub fields_of : SegmentLine → Fields
fields_of s =
    record {
      tile_x = s.tile_x;
      layer = plus s.layer;
      x = plus s.x;
      y = plus s.y;
      rows = plus s.rows;
      mult = plus s.mult;
      cover = s.cover;
    }

-- the word of the fields at a tile y, i pixel rows down
unfoldable pub packed : Fields → ℤ → ℕ → ℕ
packed f ty i = word_of cpu f.layer f.tile_x ty f.x (f.y + i) f.mult f.cover

-- packing takes them
abbrev pub is_packable_at : Fields → ℤ → ℕ → Bool
is_packable_at f ty i = is_packable cpu (pos f.layer) f.tile_x ty (pos f.x) (pos (f.y + i)) (pos f.mult) f.cover

-- the words of a line stand from place `at` on, the place after them is answered, and the other entries are as they were
pub record SegmentWritten (ty : ℤ) (s : SegmentLine) (row : List ℕ) (at r : ℕ) (row' : List ℕ) : Type 0 where
  pub answer : r ≡ at + plus s.rows
  pub written : row' ≡ sets row at (segment_words ty s)
