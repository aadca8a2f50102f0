-- The opposite of a row, each of whose words is its opposite: it is a row where the row is, and its parts are the opposites of the row's. Order, tile
-- and layer play no part in it, so no cover need be mild. Assumes nothing.
use Rattle.std.specs.Prelude.{◌≡◌, ◌&&◌, ◌∷◌, ◌+◌, ◌-◌, ◌/◌, ◌^◌, ◌<◌}
use Rattle.laws.proofs.Prelude.{refl, ap, ap₂, ◌∙◌, Bool, true, false, cond, List, [], map, ℕ, zero, suc}
use Rattle.laws.proofs.Prelude.{arith, leb, eqb, ltb, lit<, ℤ, pos, length, get_or, take, drop, length-map, le_z, map_drop, all_map}
use Rattle.laws.proofs.Maps.{map_take, key_at_lem, all_take, all_drop}
use Rattle.pixel_segment.specs.Field.{cpu, tile_y_of, tile_of}
use Rattle.pixel_segment.specs.Opposite.{opposite_of}
use Rattle.pixel_segment.specs.Order.{order_key, is_gt, compare_of, compareℤ, compare_bool}
use Rattle.pixel_segment.proofs.Opposite.{opposite_field, opposite_order, opposite_lt, are_mild, is_mild}
use Rattle.pixel_segment.proofs.Ranges.{cpu_layout}
use Rattle.segment_rows.specs.Rows.{ascends_from, is_row, Words}
use Rattle.segment_rows.specs.Search.{halved, ended, search_of, after_of, between, order_at, left_part, tile_part, layer_part}
use Rattle.segment_rows.specs.declared.search.Key.{Key}
use Rattle.segment_rows.specs.declared.search.Key.TheVariants.{TileY, TileX, LayerId, TileXAtLeast, LayerIdAtLeast, TileYNotNegative}
use Rattle.pixel_segment.specs.Layout.{Layout}

-- ---- a search by a rank that a map keeps

module _ (g : ℕ → ℕ) (rank : ℕ → ℕ) (keeps : (w : ℕ) → rank (g w) ≡ rank w) where
  at_same : (l : List ℕ) (i : ℕ) → rank (get_or (map g l) i 0) ≡ rank (get_or l i 0)
  at_same l i = key_at_lem g rank keeps l i 0

  halved_same : (l : List ℕ) (turns start len : ℕ) → halved (λ v. is_gt (rank v)) (map g l) turns start len ≡ halved (λ v. is_gt (rank v)) l turns start len
  unfolding halved
  halved_same l zero start len = refl
  halved_same l (suc turns) start len =
      λ i. cond (ltb 1 len)
      (cond (is_gt (at_same l (start + len / 2) i)) (halved_same l turns start (len / 2) i) (halved_same l turns (start + len / 2) (len - len / 2) i))
      start

  search_same : (l : List ℕ) → search_of rank (map g l) ≡ search_of rank l
  unfolding search_of
  search_same [] = refl
  search_same (w ∷ ws) =
      let f : ℕ → Bool = λ v. is_gt (rank v) in
      let n = ap suc (length-map ws g) in
      let start : halved f (map g (w ∷ ws)) (length (map g (w ∷ ws))) 0 (length (map g (w ∷ ws))) ≡ halved f (w ∷ ws) (length (w ∷ ws)) 0 (length (w ∷ ws)) =
      ap (λ (k : ℕ). halved f (map g (w ∷ ws)) k 0 k) n ∙ halved_same (w ∷ ws) (length (w ∷ ws)) 0 (length (w ∷ ws)) in
      ap (λ (s : ℕ). ended (rank (get_or (map g (w ∷ ws)) s 0)) s) start
      ∙ ap (λ (r : ℕ). ended r (halved f (w ∷ ws) (length (w ∷ ws)) 0 (length (w ∷ ws)))) (at_same (w ∷ ws) (halved f (w ∷ ws) (length (w ∷ ws)) 0 (length (w ∷ ws))))

between_map : (g : ℕ → ℕ) (start end : ℕ) (l : List ℕ) → between start end (map g l) ≡ map g (between start end l)
between_map g start end l = ap (take (end - start)) (map_drop g l start) ∙ map_take g (end - start) (drop start l)

-- ---- the keys of the painter

key_same : (k : Key) (w : ℕ) → order_at k (opposite_of cpu w) ≡ order_at k w
key_same (TileY k) w = ap (λ (n : ℕ). compareℤ (tile_of n) k) (opposite_field cpu cpu_layout w 0 (lit< tt))
key_same (TileX k) w = ap (λ (n : ℕ). compareℤ (tile_of n) k) (opposite_field cpu cpu_layout w 1 (lit< tt))
key_same (LayerId k) w = ap (λ (n : ℕ). compare_of n k) (opposite_field cpu cpu_layout w 2 (lit< tt))
key_same (TileXAtLeast start k) w = ap (λ (n : ℕ). compare_bool (le_z start (tile_of n)) k) (opposite_field cpu cpu_layout w 1 (lit< tt))
key_same (LayerIdAtLeast start k) w = ap (λ (n : ℕ). compare_bool (leb start n) k) (opposite_field cpu cpu_layout w 2 (lit< tt))
key_same (TileYNotNegative k) w = ap (λ (n : ℕ). compare_bool (le_z (pos 0) (tile_of n)) k) (opposite_field cpu cpu_layout w 0 (lit< tt))

found_same : (k : Key) (l : List ℕ) → after_of (search_of (order_at k) (map (opposite_of cpu) l)) ≡ after_of (search_of (order_at k) l)
found_same k l = ap after_of (search_same (opposite_of cpu) (order_at k) (key_same k) l)

-- ---- the parts

pub left_opposite : (t : ℤ) (row : List ℕ) → left_part t (map (opposite_of cpu) row) ≡ map (opposite_of cpu) (left_part t row)
unfolding left_part
left_opposite t row =
    ap (λ (n : ℕ). between 0 n (map (opposite_of cpu) row)) (found_same (TileXAtLeast t false) row)
    ∙ between_map (opposite_of cpu) 0 (after_of (search_of (order_at (TileXAtLeast t false)) row)) row

pub tile_opposite : (t : ℤ) (row : List ℕ) → tile_part t (map (opposite_of cpu) row) ≡ map (opposite_of cpu) (tile_part t row)
unfolding tile_part
tile_opposite t row =
    ap₂ (λ (m n : ℕ). between m n (map (opposite_of cpu) row)) (found_same (TileXAtLeast t false) row) (found_same (TileX t) row)
    ∙ between_map (opposite_of cpu) (after_of (search_of (order_at (TileXAtLeast t false)) row)) (after_of (search_of (order_at (TileX t)) row)) row

pub layer_opposite : (id : ℕ) (part : List ℕ) → layer_part id (map (opposite_of cpu) part) ≡ map (opposite_of cpu) (layer_part id part)
unfolding layer_part
layer_opposite id part =
    ap₂ (λ (m n : ℕ). between m n (map (opposite_of cpu) part)) (found_same (LayerIdAtLeast id false) part) (found_same (LayerId id) part)
    ∙ between_map (opposite_of cpu) (after_of (search_of (order_at (LayerIdAtLeast id false)) part)) (after_of (search_of (order_at (LayerId id)) part)) part

-- ---- a row in order, of 64-bit words, with mild covers

module _ (ws : List ℕ) (layout : Layout ws) where
  ascends_opposite : (k : ℕ) (l : List ℕ) → ascends_from (order_key ws) k (map (opposite_of ws) l) ≡ ascends_from (order_key ws) k l
  unfolding ascends_from
  ascends_opposite k [] = refl
  ascends_opposite k (w ∷ l) =
      ap (λ (n : ℕ). leb k n && ascends_from (order_key ws) n (map (opposite_of ws) l)) (opposite_order ws layout w)
      ∙ ap (λ (t : Bool). leb k (order_key ws w) && t) (ascends_opposite (order_key ws w) l)

  pub row_opposite : (ty : ℕ) (row : List ℕ) → is_row ws ty (map (opposite_of ws) row) ≡ is_row ws ty row
  row_opposite ty row =
      ap₂ ◌&&◌ (ascends_opposite 0 row)
      (all_map (opposite_of ws) (λ w. eqb (tile_y_of ws w) ty) (λ w. eqb (tile_y_of ws w) ty) (λ w. ap (λ (n : ℕ). eqb n ty) (opposite_field ws layout w 0 (lit< tt))) row)

pub words_opposite : (row : List ℕ) → Words row → Words (map (opposite_of cpu) row)
words_opposite row h = record { small = small row h.small }
  where
    small : (l : List ℕ) → ((i : ℕ) → get_or l i 0 < 2 ^ 64) → (i : ℕ) → get_or (map (opposite_of cpu) l) i 0 < 2 ^ 64
    small [] g i = omega arith
    small (w ∷ l) g zero = opposite_lt cpu cpu_layout w (g 0)
    small (w ∷ l) g (suc i) = small l (λ j. g (suc j)) i

between_mild : (start end : ℕ) (row : List ℕ) → are_mild cpu row ≡ true → are_mild cpu (between start end row) ≡ true
between_mild start end row mild = all_take (is_mild cpu) (end - start) (drop start row) (all_drop (is_mild cpu) start row mild)

module _ (row : List ℕ) (mild : are_mild cpu row ≡ true) where
  pub left_mild : (t : ℤ) → are_mild cpu (left_part t row) ≡ true
  unfolding left_part
  left_mild t = between_mild 0 (after_of (search_of (order_at (TileXAtLeast t false)) row)) row mild

  pub tile_mild : (t : ℤ) → are_mild cpu (tile_part t row) ≡ true
  unfolding tile_part
  tile_mild t = between_mild (after_of (search_of (order_at (TileXAtLeast t false)) row)) (after_of (search_of (order_at (TileX t)) row)) row mild

  pub layer_mild : (id : ℕ) → are_mild cpu (layer_part id row) ≡ true
  unfolding layer_part
  layer_mild id = between_mild (after_of (search_of (order_at (LayerIdAtLeast id false)) row)) (after_of (search_of (order_at (LayerId id)) row)) row mild
