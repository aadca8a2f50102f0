-- A vertical crop. Stands for '`print_row` skips rows outside a crop'.
use Rattle.std.specs.Prelude.{◌&&◌, Option, Some, None}
use Rattle.laws.specs.Prelude.{Bool, true, ℕ, leb, ltb}

-- row j is printed: without a crop every row, with one those from its start up to its end, which is not among them
abbrev pub is_in_crop : Option (ℕ × ℕ) → ℕ → Bool
is_in_crop None j = true
is_in_crop (Some (start, end)) j = leb start j && ltb j end
