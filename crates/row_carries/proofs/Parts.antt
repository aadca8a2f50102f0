-- The parts of a row in order, found by search, are the parts that the whole row has of a layer: what lies in a tile, and what lies left of it.
-- The stored number of tile t is t + 1. Assumes nothing.
use Rattle.std.specs.Prelude.{◌≡◌}
use Rattle.laws.proofs.Prelude.{sym, ap, ◌∙◌, List, ℕ, suc, eqb, ltb, ℤ, pos, filter, filter_twice}
use Rattle.pixel_segment.specs.Field.{cpu, tile_x_of, layer_id_of}
use Rattle.segment_rows.specs.Rows.{Ordered}
use Rattle.segment_rows.specs.Search.{left_part, tile_part, layer_part}
use Rattle.segment_rows.proofs.Keys.{tile_suc}
use Rattle.segment_rows.proofs.TileParts.{tile_part_lem, left_part_lem, layer_part_lem}
use Rattle.segment_rows.proofs.TileLayers.{layers_ordered}
use Rattle.cover_statements.specs.WholeRow as WholeRow
use Rattle.queue_statements.specs.Opening.{of_layer}
use Rattle.row_carries.specs.Carries.{InOrder}

module _ {ty : ℕ} {row : List ℕ} (r : InOrder ty row) (t : ℕ) where
  tile_is : tile_part (pos t) row ≡ filter (λ w. eqb (tile_x_of cpu w) (suc t)) row
  tile_is = ap (λ (z : ℤ). tile_part z row) (sym (tile_suc t)) ∙ tile_part_lem ty (suc t) row r.words r.is_row_lem

  left_is : left_part (pos t) row ≡ filter (λ w. ltb (tile_x_of cpu w) (suc t)) row
  left_is = ap (λ (z : ℤ). left_part z row) (sym (tile_suc t)) ∙ left_part_lem ty (suc t) row r.words r.is_row_lem

  -- a tile's part ascends by layer
  pub tile_ordered : Ordered (layer_id_of cpu) (tile_part (pos t) row)
  tile_ordered = rw tile_is (layers_ordered ty (suc t) row r.words r.is_row_lem)

  -- the layer's segments in the tile
  pub tile_layer : (id : ℕ) → of_layer id (tile_part (pos t) row) ≡ WholeRow.part_of cpu (suc t) id row
  tile_layer id = ap (of_layer id) tile_is ∙ filter_twice (λ w. eqb (tile_x_of cpu w) (suc t)) (λ w. eqb (layer_id_of cpu w) id) row

  -- and as a search finds them
  pub layer_part_is : (id : ℕ) → layer_part id (tile_part (pos t) row) ≡ WholeRow.part_of cpu (suc t) id row
  layer_part_is id = layer_part_lem id (tile_part (pos t) row) tile_ordered ∙ tile_layer id

  -- the layer's segments left of the tile
  pub left_layer : (id : ℕ) → of_layer id (left_part (pos t) row) ≡ WholeRow.segments_left cpu (suc t) id row
  left_layer id = ap (of_layer id) left_is ∙ filter_twice (λ w. ltb (tile_x_of cpu w) (suc t)) (λ w. eqb (layer_id_of cpu w) id) row
