-- The shown layers of a tile: a listed layer that is neither masked off nor skipped is shown. Stands for 'layers neither masked nor skipped' of
-- the row program.
use Rattle.std.specs.Prelude.{◌∷◌}
use Rattle.laws.specs.Prelude.{Bool, cond, List, [], ℕ, drop}

-- the ids whose flag is set
unfoldable pub flagged : List Bool → List ℕ → List ℕ
flagged [] ids = []
flagged (s ∷ ss) [] = []
flagged (s ∷ ss) (id ∷ ids) = cond s (id ∷ flagged ss ids) (flagged ss ids)

-- the ids of the shown layers, ascending: the first so many are skipped, and of the others those count that are not masked off
abbrev pub shown_in : ℕ → List Bool → List ℕ → List ℕ
shown_in skipped unmasked ids = flagged (drop skipped unmasked) (drop skipped ids)
