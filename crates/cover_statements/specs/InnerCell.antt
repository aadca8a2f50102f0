-- How the code works d out: the double areas and the covers of each cell, which is a pixel at column × n + row, and then a column after the other.
use Rattle.std.specs.Prelude.{◌&&◌, ◌≡◌, ◌+◌, ◌*◌, ◌/◌, ◌%◌, ◌≤◌, ◌<◌, ◌+ℤ◌, ◌*ℤ◌}
use Rattle.laws.specs.Prelude.{Bool, true, cond, List, ℕ, eqb, ltb, ℤ, pos, nat_abs, length}
use Rattle.laws.specs.Prelude.{replicate, tabulate, sumℤ}
use Rattle.pixel_segment.specs.Field.{local_x_of, local_y_of, cover_of, double_area_of}
use Rattle.cover_statements.specs.Area.{areas_of}
use Rattle.cover_statements.specs.Carry.{is_light}
use Rattle.cover_statements.specs.Cover.{cover_at}
use Rattle.cover_statements.specs.InnerLoad.{loads_of, all_light}

-- the cell of a segment
abbrev pub cell_of : List ℕ → ℕ → ℕ → ℕ
cell_of ws n w = local_x_of ws w * n + local_y_of ws w

-- what f says of each cell's segments, summed
unfoldable pub cells_of : List ℕ → ℕ → (ℕ → ℤ) → List ℕ → List ℤ
cells_of ws n f part = tabulate (16 * n) (λ k. sumℤ (λ w. eqb (cell_of ws n w) k) f part)

unfoldable pub no_cells : ℕ → List ℤ
no_cells n = replicate (16 * n) (pos 0)

-- the double areas and the covers of each cell
pub record Accumulated (ws : List ℕ) (n : ℕ) (part : List ℕ) (areas covers : List ℤ) : Type 0 where
  pub areas_are : areas ≡ cells_of ws n (double_area_of ws) part
  pub covers_are : covers ≡ cells_of ws n (cover_of ws) part

-- whether the loads stay within 127, from those that come in; and if so, the sums of each cell
pub record Judged (ws : List ℕ) (n : ℕ) (incoming part : List ℕ) (r : Bool) (areas covers : List ℤ) : Type 0 where
  pub light : r ≡ all_light (loads_of ws n incoming part)
  pub sums : r ≡ true → Accumulated ws n part areas covers

-- whether number 9 does not apply; and if so, d of all pixels
pub record JudgedAreas (ws : List ℕ) (n : ℕ) (covers : List ℤ) (part : List ℕ) (r : Bool) (areas : List ℤ) : Type 0 where
  pub light : r ≡ is_light ws n covers part
  pub areas_are : r ≡ true → areas ≡ areas_of ws n (cover_at covers) part

-- a column whose sums and doubled areas are in range
pub record Shadable (n column : ℕ) (areas covers sums : List ℤ) : Type 0 where
  pub low : column < 16
  pub room : length areas ≡ 16 * n
  pub area_small : (y : ℕ) → y < n → nat_abs (pos 32 *ℤ cover_at sums y +ℤ cover_at areas (column * n + y)) ≤ 8001
  pub sum_small : (y : ℕ) → y < n → nat_abs (cover_at sums y +ℤ cover_at covers (column * n + y)) ≤ 127

-- a column's areas with 32 times the sums added, and the sums with the column's covers, in the first `rows` rows; all else as it was
pub record Shaded (n column rows : ℕ) (areas covers sums newAreas newSums : List ℤ) : Type 0 where
  pub long : length newAreas ≡ 16 * n
  pub area : (k : ℕ) → k < 16 * n → cover_at newAreas k ≡ cond (eqb (k / n) column && ltb (k % n) rows) (pos 32 *ℤ cover_at sums (k % n) +ℤ cover_at areas k) (cover_at areas k)
  pub sums_long : length newSums ≡ n
  pub sum : (y : ℕ) → y < n → cover_at newSums y ≡ cond (ltb y rows) (cover_at sums y +ℤ cover_at covers (column * n + y)) (cover_at sums y)

-- the cells of a part that number 9 does not refuse, from the incoming covers
pub record Summable (ws : List ℕ) (n : ℕ) (incoming areas covers : List ℤ) : Type 0 where
  pub part : List ℕ
  pub cells : Accumulated ws n part areas covers
  pub light : is_light ws n incoming part ≡ true

-- their doubled areas: those of every part with these cells
pub record Summed (ws : List ℕ) (n : ℕ) (incoming areas covers newAreas : List ℤ) : Type 0 where
  pub areas_are : (part : List ℕ) → Accumulated ws n part areas covers → newAreas ≡ areas_of ws n (cover_at incoming) part
