-- Where an id stands in an ascending list of ids, or would stand.
use Rattle.std.specs.Prelude.{◌&&◌, ◌∷◌}
use Rattle.laws.specs.Prelude.{Bool, cond, List, [], ℕ, suc, eqb, ltb, length, get_or}

-- how many numbers at the front of a list are below x: in an ascending list, how many are
unfoldable pub rank_of : ℕ → List ℕ → ℕ
rank_of x [] = 0
rank_of x (y ∷ ys) = cond (ltb y x) (suc (rank_of x ys)) 0

-- the number at a place is x
unfoldable pub holds_at : ℕ → ℕ → List ℕ → Bool
holds_at x place ys = ltb place (length ys) && eqb (get_or ys place 0) x
