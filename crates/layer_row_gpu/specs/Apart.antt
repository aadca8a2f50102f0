-- Numbers packed at a height, as a row. Stands for 'the same segments' of a tile 4 high and of one 16 high: rows 0 to 3 of the second are the first.
use Rattle.std.specs.Prelude.{◌≡◌, ◌∷◌}
use Rattle.laws.specs.Prelude.{List, [], ℕ, ℤ, given}
use Rattle.pixel_segment.specs.Pack.{pack_of}

-- the seven numbers of a segment
pub record SegmentNumbers : Type 0 where
  pub layer : ℤ
  pub tile_x : ℤ
  pub tile_y : ℤ
  pub x : ℤ
  pub y : ℤ
  pub multiplier : ℤ
  pub cover : ℤ

-- a row of words is those of the numbers, each packed by the table ws
pub data PackedRow (ws : List ℕ) : List SegmentNumbers → List ℕ → Type 0 where
  none : PackedRow ws [] []
  next : {n : SegmentNumbers} {ns : List SegmentNumbers} {w : ℕ} {row : List ℕ}
      → pack_of ws n.layer n.tile_x n.tile_y n.x n.y n.multiplier n.cover ≡ given w → PackedRow ws ns row → PackedRow ws (n ∷ ns) (w ∷ row)
