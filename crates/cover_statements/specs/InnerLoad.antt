-- How the code judges number 9: the absolute covers of each pixel row, where 128 stands for every number above 127.
use Rattle.std.specs.Prelude.{◌≡◌, ◌+◌, ◌≤◌}
use Rattle.laws.specs.Prelude.{Bool, List, map, ℕ, min, leb, ℤ, nat_abs, get_or, tabulate, all}
use Rattle.cover_statements.specs.Carry.{load_in}

-- no load is above 128
pub record Capped (loads : List ℕ) : Type 0 where
  pub at : (y : ℕ) → get_or loads y 0 ≤ 128

-- the absolute values of the incoming covers
pub record Magnitudes (covers : List ℤ) (loads : List ℕ) : Type 0 where
  pub same : loads ≡ map nat_abs covers
  pub capped : Capped loads

-- with those of a part's covers
unfoldable pub loads_of : List ℕ → ℕ → List ℕ → List ℕ → List ℕ
loads_of ws n incoming part = tabulate n (λ y. min (get_or incoming y 0 + load_in ws y part) 128)

unfoldable pub all_light : List ℕ → Bool
all_light loads = all (λ load. leb load 127) loads
