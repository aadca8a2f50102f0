-- How d is worked out a pixel row after the other: in the cells of `InnerCell`, each row from its first column to its last. Over any widths `ws`
-- and any height n; a column after the other is `Shadable` and `Shaded` there.
use Rattle.std.specs.Prelude.{◌≡◌, ◌&&◌, ◌||◌, ◌+◌, ◌*◌, ◌/◌, ◌%◌, ◌<◌}
use Rattle.laws.specs.Prelude.{Bool, true, cond, List, ℕ, eqb, ltb, ℤ, length}
use Rattle.pixel_segment.specs.Field.{cover_of}
use Rattle.cover_statements.specs.Area.{own_area, doubled_area}
use Rattle.cover_statements.specs.Carry.{is_light}
use Rattle.cover_statements.specs.InnerCell.{cells_of}
use Rattle.cover_statements.specs.Cover.{cover_at}

-- pixel k, at column × n + row, is done once y rows are, and x columns of the next
abbrev pub is_pixel_done : ℕ → ℕ → ℕ → ℕ → Bool
is_pixel_done n y x k = ltb (k % n) y || (eqb (k % n) y && ltb (k / n) x)

-- what pixel k holds: d where it is done, else its own double areas
abbrev pub held_at : List ℕ → ℕ → List ℤ → List ℕ → ℕ → Bool → ℤ
held_at ws n covers part k done = cond done (doubled_area ws (cover_at covers) part (k / n) (k % n)) (own_area ws (k / n) (k % n) part)

pub record RowsDone (ws : List ℕ) (n : ℕ) (covers : List ℤ) (part : List ℕ) (cells : List ℤ) (y x : ℕ) (areas : List ℤ) : Type 0 where
  pub long : length areas ≡ 16 * n
  pub cells_are : cells ≡ cells_of ws n (cover_of ws) part
  pub area : (k : ℕ) → k < 16 * n → cover_at areas k ≡ held_at ws n covers part k (is_pixel_done n y x k)

-- row y is the next, of a part that number 9 does not refuse
pub record RowReady (ws : List ℕ) (n y : ℕ) (cover : ℤ) (areas cells : List ℤ) : Type 0 where
  pub low : y < n
  pub part : List ℕ
  pub covers : List ℤ
  pub cover_is : cover_at covers y ≡ cover
  pub light : is_light ws n covers part ≡ true
  pub done : RowsDone ws n covers part cells y 0 areas

-- it is done, of every part with these cells
pub record RowShaded (ws : List ℕ) (n y : ℕ) (cover : ℤ) (areas cells newAreas : List ℤ) : Type 0 where
  pub done : (covers : List ℤ) (part : List ℕ) → cover_at covers y ≡ cover → RowsDone ws n covers part cells y 0 areas → RowsDone ws n covers part cells (y + 1) 0 newAreas
