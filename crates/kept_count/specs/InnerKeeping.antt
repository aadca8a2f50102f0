-- What the functions below `keep_count` ask and give.
use Rattle.std.specs.Prelude.{◌≡◌, ◌∷◌, ◌+◌, ◌≤◌}
use Rattle.laws.specs.Prelude.{Bool, true, false, cond, List, [], ℕ, length, drop, take}
use Rattle.styling.specs.Ascending.{strictly_ascends}
use Rattle.cached_tile.specs.declared.kept.Kept as kept
use Rattle.kept_frames.specs.Stays.{Member, same_member}
use Rattle.kept_count.specs.Keeping.{uncounted}
use Rattle.kept_count.specs.declared.CountAnswer.TheVariants.{Stays, Dropped}
use Rattle.kept_count.specs.declared.CountKept.{CountKept}

-- ---- the walk over today's list

-- the next of the members to be met is m
abbrev pub is_next : List Member → Member → Bool
is_next [] m = false
is_next (x ∷ xs) m = same_member x m

-- how many are met, m included
abbrev pub met_by : List Member → ℕ → Member → ℕ
met_by before met m = cond (is_next (drop met before) m) (met + 1) met

-- n entries, strictly ascending
pub record MembersLent (ids kinds : List ℕ) (n : ℕ) : Type 0 where
  pub few : n ≤ 256
  pub ids_long : n ≤ length ids
  pub kinds_long : n ≤ length kinds
  pub ascending : strictly_ascends (take n ids) ≡ true

-- ---- the answer, where no refusal applies

abbrev pub answered_by : Bool → kept.Kept → CountKept
answered_by may k = cond may (record { kept = k; answer = Stays }) (record { kept = uncounted k; answer = Dropped })
