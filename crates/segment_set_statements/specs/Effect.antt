-- What one segment changes: d of the pixels of its row, from its column rightward, and its row's carry and load. Stands for W-207, 'only the
-- segment's pixel row, from its column rightward, and that row's carry may differ'. Each change is written with the operation that makes it:
-- a sum where the segment is taken in, a difference where it is let out. The field widths `ws` and the tile's height n are parameters.
use Rattle.std.specs.Prelude.{◌&&◌, ◌-◌, ◌*◌, ◌/◌, ◌%◌, ◌^◌, ◌+ℤ◌, ◌*ℤ◌}
use Rattle.laws.specs.Prelude.{Bool, cond, List, ℕ, leb, ℤ, pos, sub_ℕ, get_or, set, modℤ, tabulate, over}
use Rattle.pixel_segment.specs.Field.{local_x_of, local_y_of, cover_of, double_area_of}
use Rattle.cover_statements.specs.Area.{is_own, is_before}
use Rattle.cover_statements.specs.Carry.{in_row, abs_cover}
use Rattle.cover_statements.specs.Cover.{cover_at}

-- z brought back into k signed bits: the number from -2^(k-1) to 2^(k-1) - 1 that differs from z by a multiple of 2^k
unfoldable pub wrap : ℕ → ℤ → ℤ
wrap k z = sub_ℕ (modℤ (2 ^ k) (z +ℤ pos (2 ^ (k - 1)))) (2 ^ (k - 1))

-- what segment w adds to d of the pixel in column c and row y: its double area in its own pixel, 32 times its cover right of it
unfoldable pub effect_of : List ℕ → ℕ → ℕ → ℕ → ℤ
effect_of ws w c y = cond (is_own ws c y w) (double_area_of ws w) (cond (is_before ws c y w) (pos 32 *ℤ cover_of ws w) (pos 0))

-- the pixels that it can change
abbrev pub is_reached : List ℕ → ℕ → ℕ → ℕ → Bool
is_reached ws w c y = in_row ws y w && leb (local_x_of ws w) c

-- d of a pixel, changed; where the pixel is not reached it stays. On a kept set nothing is wrapped (proofs/Kept)
abbrev pub area_after : (ℤ → ℤ → ℤ) → List ℕ → ℕ → ℕ → ℕ → ℤ → ℤ
area_after op ws w c y d = cond (is_reached ws w c y) (wrap 16 (op d (effect_of ws w c y))) d

-- d of all pixels, at column × n + row; what lies past them in the lent list stays
unfoldable pub areas_after : (ℤ → ℤ → ℤ) → List ℕ → ℕ → ℕ → List ℤ → List ℤ
areas_after op ws n w areas = over (tabulate (16 * n) (λ k. area_after op ws w (k / n) (k % n) (cover_at areas k))) areas

-- the carry and the loads, changed in the segment's row
unfoldable pub carry_after : (ℤ → ℤ → ℤ) → List ℕ → ℕ → List ℤ → List ℤ
carry_after op ws w carry = set carry (local_y_of ws w) (wrap 8 (op (cover_at carry (local_y_of ws w)) (cover_of ws w)))

unfoldable pub loads_after : (ℕ → ℕ → ℕ) → List ℕ → ℕ → List ℕ → List ℕ
loads_after op ws w loads = set loads (local_y_of ws w) (op (get_or loads (local_y_of ws w) 0) (abs_cover ws w))
