-- How many layers of a tile can be shown. Assumes nothing.
use Rattle.std.specs.Prelude.{◌∷◌, ◌≤◌}
use Rattle.laws.proofs.Prelude.{Bool, true, false, List, [], ℕ, arith, length, drop, length-drop}
use Rattle.row_lines.specs.Shown.{flagged, shown_in}

-- as many ids are shown as are listed, at most
flagged_few : (ss : List Bool) (ids : List ℕ) → length (flagged ss ids) ≤ length ids
unfolding flagged
flagged_few [] ids = omega arith
flagged_few (s ∷ ss) [] = omega arith
flagged_few (true ∷ ss) (id ∷ ids) = let h = flagged_few ss ids in omega (arith, h)
flagged_few (false ∷ ss) (id ∷ ids) = let h = flagged_few ss ids in omega (arith, h)

pub shown_few : (k : ℕ) (us : List Bool) (ids : List ℕ) → length (shown_in k us ids) ≤ length ids
shown_few k us ids = let h = flagged_few (drop k us) (drop k ids) in omega (arith, h, length-drop k ids)
