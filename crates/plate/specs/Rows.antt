-- Which part of all segments of a plate is a row, as the Rust's searches find it, on every slice: `for_each_row` skips what has a negative
-- tile y, and `print_row` finds row j. On a slice that tile y sorts see proofs/Sorted. Stands for 'row choice of `print_row` and
-- `for_each_row`, one after another'.
use Rattle.std.specs.Prelude.{◌-ℤ◌}
use Rattle.laws.specs.Prelude.{false, List, ℕ, suc, ℤ, pos, take, drop}
use Rattle.pixel_segment.specs.Field.{signed_of}
use Rattle.segment_rows.specs.Search.{Place, found, absent, search_of, order_at, after_of, between}
use Rattle.segment_rows.specs.declared.search.Key.TheVariants.{TileY, TileYNotNegative}
use Rattle.plate.specs.declared.Part.{Part}

-- `j as i16`: the low 16 bits of a row number, signed. So row 65,535 is tile row -1, and row 65,536 is tile row 0 again
unfoldable pub cast_of : ℕ → ℤ
cast_of j = signed_of 16 j

-- past the place that a search found, or at the front
abbrev pub past_of : Place → ℕ
past_of (found last) = suc last
past_of (absent i) = 0

-- where the segments start that are past the last one with a negative tile y
unfoldable pub rows_start : List ℕ → ℕ
rows_start l = past_of (search_of (order_at (TileYNotNegative false)) l)

-- those segments
unfoldable pub not_negative : List ℕ → List ℕ
not_negative l = drop (rows_start l) l

-- where the segments of tile row t stand whose last one was found: from the last one of the row above, looked for in what stands before
unfoldable pub place_by : ℤ → List ℕ → Place → Part
place_by t l (found last) = record { start = after_of (search_of (order_at (TileY (t -ℤ pos 1))) (take last l)); end = suc last }
place_by t l (absent i) = record { start = 0; end = 0 }

unfoldable pub row_place : ℤ → List ℕ → Part
row_place t l = place_by t l (search_of (order_at (TileY t)) l)

-- the segments of row j
unfoldable pub row_part : ℕ → List ℕ → List ℕ
row_part j l = between (row_place (cast_of j) l).start (row_place (cast_of j) l).end l
