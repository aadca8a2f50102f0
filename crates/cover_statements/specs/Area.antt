-- The doubled area d that a pixel sees: 32 × (incoming cover of its row + covers of the part's segments in its row with local x below its
-- column) + double areas of its own segments. `incoming` says the incoming cover of each pixel row.
use Rattle.std.specs.Prelude.{◌&&◌, ◌*◌, ◌/◌, ◌%◌, ◌+ℤ◌, ◌*ℤ◌}
use Rattle.laws.specs.Prelude.{Bool, List, ℕ, eqb, ltb, ℤ, pos, tabulate, sumℤ}
use Rattle.pixel_segment.specs.Field.{local_x_of, cover_of, double_area_of}
use Rattle.cover_statements.specs.Carry.{in_row}

-- segment w lies in pixel row y, left of column c
abbrev pub is_before : List ℕ → ℕ → ℕ → ℕ → Bool
is_before ws c y w = in_row ws y w && ltb (local_x_of ws w) c

-- it lies in pixel row y and column c
abbrev pub is_own : List ℕ → ℕ → ℕ → ℕ → Bool
is_own ws c y w = in_row ws y w && eqb (local_x_of ws w) c

-- the covers left of the pixel, and its own double areas
abbrev pub cover_before : List ℕ → ℕ → ℕ → List ℕ → ℤ
cover_before ws c y part = sumℤ (is_before ws c y) (cover_of ws) part

abbrev pub own_area : List ℕ → ℕ → ℕ → List ℕ → ℤ
own_area ws c y part = sumℤ (is_own ws c y) (double_area_of ws) part

-- d of the pixel in column c and row y
unfoldable pub doubled_area : List ℕ → (ℕ → ℤ) → List ℕ → ℕ → ℕ → ℤ
doubled_area ws incoming part c y = pos 32 *ℤ (incoming y +ℤ cover_before ws c y part) +ℤ own_area ws c y part

-- d of all pixels of a tile n high, at column × n + row
unfoldable pub areas_of : List ℕ → ℕ → (ℕ → ℤ) → List ℕ → List ℤ
areas_of ws n incoming part = tabulate (16 * n) (λ k. doubled_area ws incoming part (k / n) (k % n))
