-- A list of numbers that ascends strictly: what refusal 4 asks of the ids of a table, and refusal 5 of those of a queue.
use Rattle.std.specs.Prelude.{◌&&◌, ◌∷◌}
use Rattle.laws.specs.Prelude.{Bool, true, List, [], ℕ, suc, leb}

-- the first number is `low` or more, and each other is above the one before it
unfoldable pub strictly_ascends_from : ℕ → List ℕ → Bool
strictly_ascends_from low [] = true
strictly_ascends_from low (x ∷ xs) = leb low x && strictly_ascends_from (suc x) xs

abbrev pub strictly_ascends : List ℕ → Bool
strictly_ascends xs = strictly_ascends_from 0 xs
