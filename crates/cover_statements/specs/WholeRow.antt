-- Working from the whole row: a layer's incoming cover is the exact sum of its covers in a pixel row over all tiles to the left, -1 included; d,
-- weight, coverage and plane follow from it and from the tile's own segments. A tile is given by its stored number, which is its own plus 1, so
-- tile -1 is 0.
use Rattle.std.specs.Prelude.{◌&&◌, ◌<◌}
use Rattle.laws.specs.Prelude.{Bool, List, ℕ, eqb, ltb, Float, ℤ, filter}
use Rattle.pixel_segment.specs.Field.{tile_x_of, layer_id_of}
use Rattle.styling.specs.declared.FillRule.{FillRule}
use Rattle.cover_statements.specs.Area.{doubled_area}
use Rattle.cover_statements.specs.Carry.{cover_in}
use Rattle.cover_statements.specs.Cover.{cover_at, Agrees}
use Rattle.cover_statements.specs.Plane.{plane_of}
use Rattle.cover_statements.specs.Weight.{weight_of}

-- segment w is the layer's, in the tile; in a tile left of it
abbrev pub in_tile : List ℕ → ℕ → ℕ → ℕ → Bool
in_tile ws tile layer w = eqb (tile_x_of ws w) tile && eqb (layer_id_of ws w) layer

abbrev pub left_of_tile : List ℕ → ℕ → ℕ → ℕ → Bool
left_of_tile ws tile layer w = ltb (tile_x_of ws w) tile && eqb (layer_id_of ws w) layer

-- the layer's part of the tile, and what lies left of it, in the row's order
abbrev pub part_of : List ℕ → ℕ → ℕ → List ℕ → List ℕ
part_of ws tile layer row = filter (in_tile ws tile layer) row

abbrev pub segments_left : List ℕ → ℕ → ℕ → List ℕ → List ℕ
segments_left ws tile layer row = filter (left_of_tile ws tile layer) row

-- the incoming cover of pixel row y
unfoldable pub left_cover : List ℕ → ℕ → ℕ → List ℕ → ℕ → ℤ
left_cover ws tile layer row y = cover_in ws y (segments_left ws tile layer row)

-- d and the weight of the pixel in column c and row y, and the plane
abbrev pub row_area : List ℕ → ℕ → ℕ → List ℕ → ℕ → ℕ → ℤ
row_area ws tile layer row c y = doubled_area ws (left_cover ws tile layer row) (part_of ws tile layer row) c y

abbrev pub row_weight : List ℕ → FillRule → ℕ → ℕ → List ℕ → ℕ → ℕ → ℕ
row_weight ws rule tile layer row c y = weight_of rule (row_area ws tile layer row c y)

abbrev pub row_plane : List ℕ → ℕ → FillRule → ℕ → ℕ → List ℕ → List Float
row_plane ws n rule tile layer row = plane_of ws n rule (left_cover ws tile layer row) (part_of ws tile layer row)

-- a cover is what the layer's rule sees of the whole row: the exact sums (NonZero), or numbers that agree with them modulo 32 (EvenOdd)
pub record FromRow (ws : List ℕ) (n : ℕ) (rule : FillRule) (tile layer : ℕ) (row : List ℕ) (covers : List ℤ) : Type 0 where
  pub at : (y : ℕ) → y < n → Agrees rule (cover_at covers y) (left_cover ws tile layer row y)
