-- The rows of a plate whose segments are in order. Tile numbers stand as they are stored, plus 1: row j is stored as j + 1, and 0 is
-- tile row -1.
use Rattle.std.specs.Prelude.{◌≡◌, ◌&&◌, ◌+◌, ◌-◌, ◌≤◌, ◌<◌, Option, None}
use Rattle.laws.specs.Prelude.{Bool, true, false, List, [], ℕ, suc, leb, eqb, filter}
use Rattle.pixel_segment.specs.Field.{cpu, tile_y_of}
use Rattle.segment_rows.specs.Rows.{is_row}
use Rattle.plate.specs.Crop.{is_in_crop}
use Rattle.plate.specs.Rows.{cast_of, not_negative, row_place, row_part}
use Rattle.plate.specs.Print.{skipped, row, print_row, printed_part, printed_below}

-- the segment's tile row is not negative, and in the crop
abbrev pub is_printed : Option (ℕ × ℕ) → ℕ → Bool
is_printed crop w = leb 1 (tile_y_of cpu w) && is_in_crop crop (tile_y_of cpu w - 1)

-- what holds of all segments that tile y sorts
pub record RowsOf (l : List ℕ) : Type 0 where
  -- what is not skipped is what has no negative tile y
  pub kept : not_negative l ≡ filter (λ w. leb 1 (tile_y_of cpu w)) l
  -- the part of row j is exactly the segments of that row, in their order
  pub part : (j : ℕ) → j < 65535 → row_part j l ≡ filter (λ w. eqb (tile_y_of cpu w) (suc j)) l
  -- rows 0 to n - 1, printed one after another, take every segment of theirs that is in the crop once
  pub once : (crop : Option (ℕ × ℕ)) (n : ℕ) → n ≤ 65535 → printed_below crop n (not_negative l) ≡ filter (λ w. is_printed crop w && leb (tile_y_of cpu w) n) l
  -- and 2,047 rows or more take all that is in the crop: without one, all that is not skipped
  pub whole : (crop : Option (ℕ × ℕ)) (n : ℕ) → 2047 ≤ n → n ≤ 65535 → printed_below crop n (not_negative l) ≡ filter (is_printed crop) l
  pub uncropped : (n : ℕ) → 2047 ≤ n → n ≤ 65535 → printed_below None n (not_negative l) ≡ not_negative l
  -- row 65,535 is tile row -1: the cast to 16 bits makes it so
  pub last : row_part 65535 l ≡ filter (λ w. eqb (tile_y_of cpu w) 0) l

-- what holds of all segments in the painter's order: what is chosen of them for row j passes number 3 as that row
pub record InRows (l : List ℕ) : Type 0 where
  pub part : (j : ℕ) → j ≤ 2046 → is_row cpu (suc j) (row_part j l) ≡ true
  pub printed : (crop : Option (ℕ × ℕ)) (j : ℕ) → j ≤ 2046 → is_row cpu (suc j) (printed_part crop j (not_negative l)) ≡ true

-- what holds of all segments, in order or not: rows outside the crop are skipped and no others, rows 2,047 to 65,534 are empty, and from
-- 65,536 on the rows come again
pub record RowEdges (l : List ℕ) : Type 0 where
  pub outside : (crop : Option (ℕ × ℕ)) (j : ℕ) → is_in_crop crop j ≡ false → print_row crop j l ≡ skipped
  pub inside : (crop : Option (ℕ × ℕ)) (j : ℕ) → is_in_crop crop j ≡ true → print_row crop j l ≡ row (row_place (cast_of j) l).start (row_place (cast_of j) l).end
  pub empty : (j : ℕ) → 2047 ≤ j → j < 65535 → row_part j l ≡ []
  pub again : (j : ℕ) → row_part (j + 65536) l ≡ row_part j l
