-- What `print_row` makes of a row, with a crop or without one. Stands for '`print_row` skips rows outside a crop' and for 'row choice of
-- `print_row` and `for_each_row`, one after another'.
use Rattle.std.specs.Prelude.{◌++◌, Option, Some, None}
use Rattle.laws.specs.Prelude.{cond, List, [], ℕ, zero, suc}
use Rattle.plate.specs.declared.Part.{Part}
use Rattle.segment_rows.specs.Search.{between}
use Rattle.plate.specs.Crop.{is_in_crop}
use Rattle.plate.specs.Rows.{cast_of, row_place}

-- a row is skipped, or printed from the segments from one place up to another, of which there may be none
pub data RowPrinting : Type 0 where
  skipped : RowPrinting
  row : ℕ → ℕ → RowPrinting

-- what an answer of the code stands for
abbrev pub printing_in : Option Part → RowPrinting
printing_in None = skipped
printing_in (Some part) = row part.start part.end

-- row j: skipped where it is outside the crop, else printed from its place
abbrev pub print_row : Option (ℕ × ℕ) → ℕ → List ℕ → RowPrinting
print_row crop j l = cond (is_in_crop crop j) (row (row_place (cast_of j) l).start (row_place (cast_of j) l).end) skipped

-- the segments that a row is printed from
abbrev pub part_in : RowPrinting → List ℕ → List ℕ
part_in skipped l = []
part_in (row start end) l = between start end l

abbrev pub printed_part : Option (ℕ × ℕ) → ℕ → List ℕ → List ℕ
printed_part crop j l = part_in (print_row crop j l) l

-- the segments that rows 0 to n - 1 are printed from, one row after another
unfoldable pub printed_below : Option (ℕ × ℕ) → ℕ → List ℕ → List ℕ
printed_below crop zero l = []
printed_below crop (suc n) l = printed_below crop n l ++ printed_part crop n l
