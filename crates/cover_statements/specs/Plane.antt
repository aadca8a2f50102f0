-- A plane: a coverage for each pixel of a tile that is 16 pixels wide and n high. Stands for W-209, 'coverage and mask planes are stored at
-- row × 16 + column', and for 'the new plane is the old one with its two places exchanged'.
use Rattle.std.specs.Prelude.{◌+◌, ◌*◌, ◌/◌, ◌%◌}
use Rattle.laws.specs.Prelude.{List, map, ℕ, Float, ℤ, get_or, tabulate}
use Rattle.styling.specs.declared.FillRule.{FillRule}
use Rattle.cover_statements.specs.Area.{doubled_area}
use Rattle.cover_statements.specs.Coverage.{area_coverage}

-- the place of a pixel, and the pixel at a place (proofs/Planes: each undoes the other). A change of the order of a plane is a change here
abbrev pub place_of : ℕ → ℕ → ℕ
place_of column row = row * 16 + column

abbrev pub column_of : ℕ → ℕ
column_of place = place % 16

abbrev pub row_of : ℕ → ℕ
row_of place = place / 16

-- how many numbers a plane has
abbrev pub size_of : ℕ → ℕ
size_of n = 16 * n

-- what f says of each column and row, in the order of a plane
unfoldable pub in_places : {A : Type 0} → ℕ → (ℕ → ℕ → A) → List A
in_places n f = tabulate (size_of n) (λ place. f (column_of place) (row_of place))

-- the coverage of a pixel, and the coverages of a part from an incoming cover
abbrev pub pixel_of : List ℕ → FillRule → (ℕ → ℤ) → List ℕ → ℕ → ℕ → Float
pixel_of ws rule incoming part column row = area_coverage rule (doubled_area ws incoming part column row)

abbrev pub plane_of : List ℕ → ℕ → FillRule → (ℕ → ℤ) → List ℕ → List Float
plane_of ws n rule incoming part = in_places n (pixel_of ws rule incoming part)

-- the coverages of doubled areas, in their order
abbrev pub coverages_of : FillRule → List ℤ → List Float
coverages_of rule areas = map (area_coverage rule) areas

-- the order of planes before W-209, of the Rust's planes and of areas: what f says of each column and row, at column × n + row
abbrev pub by_columns : {A : Type 0} → ℕ → (ℕ → ℕ → A) → List A
by_columns n f = tabulate (16 * n) (λ k. f (k / n) (k % n))

-- the two places exchanged: what stood at column × n + row stands at row × 16 + column; and back. d stands for what a list lacks
abbrev pub exchange : {A : Type 0} → A → ℕ → List A → List A
exchange d n old = in_places n (λ column row. get_or old (column * n + row) d)

abbrev pub exchange_back : {A : Type 0} → A → ℕ → List A → List A
exchange_back d n new = by_columns n (λ column row. get_or new (place_of column row) d)
