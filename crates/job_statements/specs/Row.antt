-- The row that a job leaves: packed words, in the order of the text, each line's segment repeated downward. Stands for '`rows` repeats a
-- segment downward'.
-- The words are those of packing (`word_of`), at the tile y of the job's row. Only refusal 2 judges the row number, after the text is read, so
-- it can be any number here: where packing does not take it, the words have tile y -1, which no opening accepts either.
use Rattle.std.specs.Prelude.{◌+◌}
use Rattle.laws.specs.Prelude.{Bool, cond, List, map, flatten, ℕ, ℤ, plus, tabulate}
use Rattle.pixel_segment.specs.Field.{cpu, width_of}
use Rattle.pixel_segment.specs.Pack.{word_of, is_held, lowest_tile}
use Rattle.job_lines.specs.declared.segment.SegmentLine.{SegmentLine}

-- the word of a line at a tile y, i pixel rows down
unfoldable pub segment_word : ℤ → SegmentLine → ℕ → ℕ
segment_word ty s i = word_of cpu (plus s.layer) s.tile_x ty (plus s.x) (plus s.y + i) (plus s.mult) s.cover

abbrev pub segment_words : ℤ → SegmentLine → List ℕ
segment_words ty s = tabulate (plus s.rows) (segment_word ty s)

-- packing takes the tile y: -1 to 2,046
abbrev pub is_tile_y : ℤ → Bool
is_tile_y ty = is_held lowest_tile (width_of cpu 0) ty

-- the tile y of a row's words: the row number where packing takes it, else -1
unfoldable pub row_tile : ℤ → ℤ
row_tile row = cond (is_tile_y row) row lowest_tile

unfoldable pub row_words : ℤ → List SegmentLine → List ℕ
row_words row ss = flatten (map (segment_words (row_tile row)) ss)
