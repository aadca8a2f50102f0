-- What the walk over the layers of a solid tile asks and gives: the first shown ones are passed over, the others are noted.
use Rattle.std.specs.Prelude.{◌∷◌, ◌+◌, ◌*◌, ◌≤◌}
use Rattle.laws.specs.Prelude.{Bool, true, false, List, [], ℕ, zero, suc, length, drop, sets}
use Rattle.pass_statements.specs.Decision.{TileDecision, none, solid, paint}
use Rattle.batch_statements.specs.BatchLent.{WordsAt, words_at, mixes_from}
use Rattle.batch_mixing.specs.declared.Mixing.{Mixing}

-- how many of the shown layers to come are passed over, and the words so far
pub record MixAt : Type 0 where
  pub before : ℕ
  pub words : WordsAt

abbrev pub mix_at : Mixing → List ℕ → MixAt
mix_at m painted = record { before = m.before; words = words_at m.used painted }

-- a shown layer
abbrev pub mix_by : ℕ → WordsAt → ℕ → MixAt
mix_by zero w id = record { before = zero; words = words_at (w.used + 1) (sets w.painted (w.used * 2) (id ∷ 0 ∷ [])) }
mix_by (suc before) w id = record { before = before; words = w }

abbrev pub mix_next : MixAt → ℕ → MixAt
mix_next x id = mix_by x.before x.words id

-- all of them
abbrev pub mix_from : MixAt → List ℕ → WordsAt
mix_from x ids = mixes_from x.words (drop x.before ids)

abbrev pub is_solid : TileDecision → Bool
is_solid none = false
is_solid (solid bottom before) = true
is_solid paint = false

-- what it asks: flags and ids of the listed layers, and words for as many
pub record MixRoom (ids : List ℕ) (unmasked : List Bool) (skipped listed used : ℕ) (painted : List ℕ) : Type 0 where
  pub within : skipped ≤ listed
  pub ids_long : listed ≤ length ids
  pub unmasked_long : listed ≤ length unmasked
  pub words_long : (used + listed) * 2 ≤ length painted
