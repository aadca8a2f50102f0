-- The parts that searches find in a row in order are those that the whole row has of the layer. The stored number of tile t is t + 1. Uses of the
-- laws over the tile height at 4. Assumes nothing.
use Rattle.std.specs.Prelude.{◌≡◌}
use Rattle.laws.proofs.Prelude.{sym, ap, ◌∙◌, true, List, ℕ, suc, arith, eqb, ltb, ℤ, pos, plus, minus, filter, filter_twice, whole, equal}
use Rattle.pixel_segment.specs.Field.{gpu, tile_x_of, layer_id_of}
use Rattle.pixel_segment.proofs.Heights.{gpu_keyed}
use Rattle.segment_rows.specs.Rows.{is_row, Ordered, Words}
use Rattle.segment_rows.specs.Search.{left_part_in, tile_part_in, layer_part_in}
use Rattle.segment_rows.proofs.Keys.{tile_suc}
use Rattle.segment_rows.proofs.TileParts.{tile_part_in_lem, left_part_in_lem, layer_part_in_lem}
use Rattle.segment_rows.proofs.TileLayers.{layers_ordered_in}
use Rattle.cover_statements.specs.WholeRow.{part_of, segments_left}
use Rattle.layer_row_gpu.specs.InnerCovers.{layer_within}

module _ (ty : ℕ) {row : List ℕ} (words : Words row) (h : is_row gpu ty row ≡ true) (t : ℕ) where
  tile_is : tile_part_in gpu (pos t) row ≡ filter (λ w. eqb (tile_x_of gpu w) (suc t)) row
  tile_is = ap (λ (z : ℤ). tile_part_in gpu z row) (sym (tile_suc t)) ∙ tile_part_in_lem gpu gpu_keyed ty (suc t) row words h

  left_is : left_part_in gpu (pos t) row ≡ filter (λ w. ltb (tile_x_of gpu w) (suc t)) row
  left_is = ap (λ (z : ℤ). left_part_in gpu z row) (sym (tile_suc t)) ∙ left_part_in_lem gpu gpu_keyed ty (suc t) row words h

  ordered : Ordered (layer_id_of gpu) (tile_part_in gpu (pos t) row)
  ordered = rw tile_is (layers_ordered_in gpu gpu_keyed ty (suc t) row words h)

  -- the layer's segments in the tile
  pub part_is : (id : ℕ) → layer_part_in gpu id (tile_part_in gpu (pos t) row) ≡ part_of gpu (suc t) id row
  part_is id =
      layer_part_in_lem gpu id (tile_part_in gpu (pos t) row) ordered
      ∙ ap (layer_within id) tile_is
      ∙ filter_twice (λ w. eqb (tile_x_of gpu w) (suc t)) (λ w. eqb (layer_id_of gpu w) id) row

  -- and left of it
  pub left_layer_is : (id : ℕ) → layer_within id (left_part_in gpu (pos t) row) ≡ segments_left gpu (suc t) id row
  left_layer_is id =
      ap (layer_within id) left_is ∙ filter_twice (λ w. ltb (tile_x_of gpu w) (suc t)) (λ w. eqb (layer_id_of gpu w) id) row

-- a part left of a tile that is given as a whole number from 0 on
pub left_from : (ty : ℕ) {row : List ℕ} → Words row → is_row gpu ty row ≡ true → (from : ℤ) → minus from ≡ 0 → (id : ℕ) → layer_within id (left_part_in gpu from row) ≡ segments_left gpu (suc (plus from)) id row
left_from ty {row} words h from low id =
    ap (λ (z : ℤ). layer_within id (left_part_in gpu z row)) (equal from (pos (plus from)) (omega (arith, whole from, low)))
    ∙ left_layer_is ty words h (plus from) id
