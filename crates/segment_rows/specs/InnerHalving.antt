-- What the inner function of the searches gives.
use Rattle.std.specs.Prelude.{◌≡◌, ◌+◌, ◌-◌, ◌/◌}
use Rattle.laws.specs.Prelude.{Bool, cond, List, ℕ, get_or}
use Rattle.segment_rows.specs.declared.search.Rest.{Rest}

-- what is left after a halving of the `len` elements from `start` on
pub record HalfOf (is_above : ℕ → Bool) (l : List ℕ) (start len : ℕ) (r : Rest) : Type 0 where
  pub start_is : r.start ≡ cond (is_above (get_or l (start + len / 2) 0)) start (start + len / 2)
  pub len_is : r.len ≡ cond (is_above (get_or l (start + len / 2) 0)) (len / 2) (len - len / 2)
