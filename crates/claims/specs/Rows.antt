-- Rows and their parts, found by last-key search: at every tile height. Stands for document 01, 'a tile's segments are handed on as a part of the row,
-- found by search', 'on a sorted slice a key is called absent only if no element has it', and for the rows of a plate.
use Rattle.std.specs.Prelude.{◌≡◌, ◌<◌, ◌+◌, ◌%◌}
use Rattle.laws.specs.Prelude.{List, true, ℕ, length, get_or, eqb, ltb, count_by, filter}
use Rattle.segment_rows.specs.Rows.{Ordered, Words, is_row, ascends}
use Rattle.segment_rows.specs.Search.{search_of, absent, last_place, tile_part_in, left_part_in, layer_part_in}
use Rattle.pixel_segment.specs.Order.{is_lt, is_eq, order_key}
use Rattle.pixel_segment.specs.Layout.{Keyed}
use Rattle.pixel_segment.specs.Field.{tile_of, tile_x_of, layer_id_of, cpu, tile_y_of}
use Rattle.plate.specs.Sorted.{RowsOf}
use Rattle.plate.specs.Rows.{row_part}

pub record RowsCut : Type 0 where
  -- on a sorted slice a key is called absent only if no element has it
  pub absent_only : (at : ℕ → ℕ) → (l : List ℕ) (i : ℕ) → Ordered at l → search_of at l ≡ absent i → (j : ℕ) → j < length l → at (get_or l j 0) ≡ 1 → ⊥
  pub sorted_search : (at : ℕ → ℕ) → (l : List ℕ) → Ordered at l →
      search_of at l ≡ last_place (count_by (λ w. is_lt (at w)) l) (count_by (λ w. is_eq (at w)) l)
  -- the segments of a tile are those whose tile x it is
  pub tile_part_in_lem : (ws : List ℕ) (table : Keyed ws) (ty t : ℕ) (row : List ℕ) (s : Words row) (h : is_row ws ty row ≡ true) →
      tile_part_in ws (tile_of t) row ≡ filter (λ w. eqb (tile_x_of ws w) t) row
  -- the segments left of a tile are those whose tile x is less
  pub left_part_in_lem : (ws : List ℕ) (table : Keyed ws) (ty t : ℕ) (row : List ℕ) (s : Words row) (h : is_row ws ty row ≡ true) →
      left_part_in ws (tile_of t) row ≡ filter (λ w. ltb (tile_x_of ws w) t) row
  -- the segments of a layer in a part that ascends by layer
  pub layer_part_in_lem : (ws : List ℕ) (id : ℕ) (part : List ℕ) → Ordered (layer_id_of ws) part →
      layer_part_in ws id part ≡ filter (λ w. eqb (layer_id_of ws w) id) part
  pub layers_ordered_in : (ws : List ℕ) (table : Keyed ws) (ty t : ℕ) (row : List ℕ) (s : Words row) (h : is_row ws ty row ≡ true) →
      Ordered (layer_id_of ws) (filter (λ w. eqb (tile_x_of ws w) t) row)
  pub rows_in_order : (l : List ℕ) (s : Words l) (h : ascends (order_key cpu) l ≡ true) → RowsOf l
  pub sorted_rows : (l : List ℕ) → Ordered (tile_y_of cpu) l → RowsOf l
  -- the part of row j, for every j: the stored tile number is j + 1, modulo 65,536
  pub row_part_lem : (l : List ℕ) (o : Ordered (tile_y_of cpu) l) → (j : ℕ) → row_part j l ≡ filter (λ w. eqb (tile_y_of cpu w) ((j + 1) % 65536)) l
