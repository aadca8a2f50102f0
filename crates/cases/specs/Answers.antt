-- How the program reads an answer.
use Rattle.std.specs.Prelude.{◌∷◌}
use Rattle.laws.specs.Prelude.{Bool, true, false, [], Option, Some, None, ℕ, eqb, Float, eq, Answer, refused, given}
use Rattle.cached_tile.specs.Kept.{Writing, write, keep}
use Rattle.cached_tile.specs.declared.CachedTile.{CachedTile}
use Rattle.segment_rows.specs.Search.{Place, found, absent}
use Rattle.cases.specs.Numbers.{half}
use Rattle.cases.specs.Inputs.{tagged_tile}

abbrev pub is_word : Answer ℕ → ℕ → Bool
is_word (refused n) w = false
is_word (given v) w = eqb v w

-- refused by 11
abbrev pub is_refused : Answer ℕ → Bool
is_refused (refused n) = eqb n 11
is_refused (given v) = false

abbrev pub is_at : Place → ℕ → Bool
is_at (found i) place = eqb i place
is_at (absent i) place = false

abbrev pub is_absent_at : Place → ℕ → Bool
is_absent_at (found i) place = false
is_absent_at (absent i) place = eqb i place

abbrev pub is_count : Option ℕ → ℕ → Bool
is_count (Some n) number = eqb n number
is_count None number = false

abbrev pub is_no_count : Option ℕ → Bool
is_no_count (Some n) = false
is_no_count None = true

abbrev pub is_writing : Writing → Bool
is_writing write = true
is_writing keep = false

abbrev pub is_keeping : Writing → Bool
is_keeping write = false
is_keeping keep = true

abbrev pub is_write : Answer Writing → Bool
is_write (refused n) = false
is_write (given w) = is_writing w

abbrev pub is_keep : Answer Writing → Bool
is_keep (refused n) = false
is_keep (given w) = is_keeping w

-- a tile of tag 0, whose bytes are not 0
abbrev pub nothing_kept : CachedTile
nothing_kept = tagged_tile 0 (9 ∷ 9 ∷ 9 ∷ []) (8 ∷ 8 ∷ 8 ∷ 8 ∷ [])

-- a coverage is 0.5
abbrev pub is_a_half : Float → Bool
is_a_half coverage = eq coverage half
