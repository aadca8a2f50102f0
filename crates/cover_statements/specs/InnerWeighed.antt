-- How the code works coverages out: in the place of each doubled area its weight, then the coverages of the weights, a row of the plane after the
-- other; and where no segment lies in the tile, one column for all. Weights are signed numbers here, for they take the places of doubled areas.
use Rattle.std.specs.Prelude.{◌≡◌, ◌+◌, ◌*◌, ◌≤◌, ◌<◌, ◌*ℤ◌}
use Rattle.laws.specs.Prelude.{List, map, ℕ, Float, nan, ℤ, pos, nat_abs, length, get_or, paste, minus, tabulate}
use Rattle.styling.specs.declared.FillRule.{FillRule}
use Rattle.cover_statements.specs.Cover.{cover_at}
use Rattle.cover_statements.specs.Coverage.{coverage_of}
use Rattle.cover_statements.specs.Plane.{in_places, exchange}
use Rattle.cover_statements.specs.Weight.{weight_of}

-- doubled areas in the range that number 9 leaves
pub record InRange (areas : List ℤ) : Type 0 where
  pub small : (k : ℕ) → k < length areas → nat_abs (cover_at areas k) ≤ 8001

-- their weights, in their places
abbrev pub weight_in : FillRule → ℤ → ℤ
weight_in rule d = pos (weight_of rule d)

abbrev pub weights_of : FillRule → List ℤ → List ℤ
weights_of rule areas = map (weight_in rule) areas

-- weights are 0 to 512
pub record Weighed (weights : List ℤ) : Type 0 where
  pub low : (k : ℕ) → k < length weights → minus (cover_at weights k) ≡ 0
  pub high : (k : ℕ) → k < length weights → nat_abs (cover_at weights k) ≤ 512

-- the coverages of weights, in their places
abbrev pub coverage_in : ℤ → Float
coverage_in w = coverage_of (nat_abs w)

abbrev pub coverages_in : List ℤ → List Float
coverages_in weights = map coverage_in weights

-- the plane of weights that stand by columns, and its row y
abbrev pub weights_plane : ℕ → List ℤ → List Float
weights_plane n weights = exchange nan n (coverages_in weights)

abbrev pub weights_row : ℕ → List ℤ → ℕ → List Float
weights_row n weights y = tabulate 16 (λ x. get_or (coverages_in weights) (x * n + y) nan)

-- where no segment lies in the tile: what the pixels of each column see, 32 times the cover that comes in
abbrev pub column_areas : List ℤ → List ℤ
column_areas covers = map (λ cover. pos 32 *ℤ cover) covers

-- a column of n numbers in all columns of a plane
abbrev pub repeated : ℕ → List Float → List Float
repeated n column = in_places n (λ x y. get_or column y nan)

-- the plane with a row of 16 numbers written as row y, all else as it was
abbrev pub put_row : ℕ → List Float → List Float → List Float
put_row y row old = paste old (y * 16) row 16
