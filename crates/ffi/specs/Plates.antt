-- A vertical crop by numbers.
use Rattle.std.specs.Prelude.{Option, Some, None}
use Rattle.laws.specs.Prelude.{Bool, true, false, ℕ}

-- where none is given, its start and end play no part
abbrev pub crop_of : Bool → ℕ → ℕ → Option (ℕ × ℕ)
crop_of true start end = Some (start, end)
crop_of false start end = None
