-- What the noting of a tile asks.
use Rattle.std.specs.Prelude.{◌≡◌, ◌+◌, ◌*◌, ◌≤◌}
use Rattle.laws.specs.Prelude.{Bool, true, List, ℕ, Float, length}

-- room for what is noted of the tile of number i, beside its layers
pub record NoteRoom (keeps : Bool) (i : ℕ) (kept told : List ℕ) (bottoms : List Float) : Type 0 where
  pub kept_long : keeps ≡ true → (i + 1) * 8 ≤ length kept
  pub told_long : (i + 1) * 6 ≤ length told
  pub bottoms_long : (i + 1) * 4 ≤ length bottoms
