-- `search_last_by_key`: the Rust's halving. `at w` is the rank of the element w: how its key compares with the key that is looked for, so
-- one definition serves every key. Keys and parts take the table of widths as a parameter. On a slice that the key does not sort, the halving decides; on a sorted one see proofs/Sorted. Stands for
-- the clause on `search_last_by_key`, P5.
use Rattle.std.specs.Prelude.{◌∷◌, ◌+◌, ◌-◌, ◌/◌, Result, Ok, Err}
use Rattle.laws.specs.Prelude.{Bool, false, cond, List, [], ℕ, zero, suc, ltb, leb, ℤ, pos, length, get_or, take, drop}
use Rattle.laws.specs.Prelude.{le_z}
use Rattle.pixel_segment.specs.Field.{cpu, tile_x_of, tile_y_of, layer_id_of, tile_of}
use Rattle.pixel_segment.specs.Order.{is_gt, compare_of, compareℤ, compare_bool}
use Rattle.segment_rows.specs.declared.search.Key.{Key}
use Rattle.segment_rows.specs.declared.search.Key.TheVariants.{TileY, TileX, LayerId, TileXAtLeast, LayerIdAtLeast, TileYNotNegative}

-- what a search tells: the place of the last element with the key, or that it is absent, and where such an element would stand
pub data Place : Type 0 where
  found : ℕ → Place
  absent : ℕ → Place

-- what an answer of the code stands for
abbrev pub place_in : Result ℕ ℕ → Place
place_in (Ok i) = found i
place_in (Err i) = absent i

-- where the halving ends that looks at `len` elements from `start` on: in the left half where the middle element is above the key, else
-- from the middle on. The first number bounds the turns: `len` turns are always enough
unfoldable pub halved : (ℕ → Bool) → List ℕ → ℕ → ℕ → ℕ → ℕ
halved is_above l zero start len = start
halved is_above l (suc turns) start len =
    let mid = start + len / 2 in
    let lower = halved is_above l turns start (len / 2) in
    let upper = halved is_above l turns mid (len - len / 2) in
    cond (ltb 1 len) (cond (is_above (get_or l mid 0)) lower upper) start

-- where the halving of a whole slice ends
abbrev pub end_of : (ℕ → Bool) → List ℕ → ℕ
end_of is_above l = halved is_above l (length l) 0 (length l)

-- what is told of the element where the halving ends, by its rank
abbrev pub ended : ℕ → ℕ → Place
ended zero start = absent (start + 1)
ended (suc zero) start = found start
ended (suc (suc r)) start = absent start

unfoldable pub search_of : (ℕ → ℕ) → List ℕ → Place
search_of at [] = absent 0
search_of at (w ∷ ws) =
    let start = halved (λ v. is_gt (at v)) (w ∷ ws) (length (w ∷ ws)) 0 (length (w ∷ ws)) in
    ended (at (get_or (w ∷ ws) start 0)) start

-- what a search tells in a slice that the key sorts (`Ordered at l`: the elements below the key stand first, then those that have it, then
-- those above it), by how many are below the key and how many have it: the last one that has it, or absent with the number of those below
abbrev pub last_place : ℕ → ℕ → Place
last_place below zero = absent below
last_place below (suc n) = found (below + n)

-- ---- the keys of the painter: how a word compares with the value that is looked for

abbrev pub order_at_in : List ℕ → Key → ℕ → ℕ
order_at_in ws (TileY k) w = compareℤ (tile_of (tile_y_of ws w)) k
order_at_in ws (TileX k) w = compareℤ (tile_of (tile_x_of ws w)) k
order_at_in ws (LayerId k) w = compare_of (layer_id_of ws w) k
order_at_in ws (TileXAtLeast start k) w = compare_bool (le_z start (tile_of (tile_x_of ws w))) k
order_at_in ws (LayerIdAtLeast start k) w = compare_bool (leb start (layer_id_of ws w)) k
order_at_in ws (TileYNotNegative k) w = compare_bool (le_z (pos 0) (tile_of (tile_y_of ws w))) k

-- in tiles 16 pixels high
abbrev pub order_at : Key → ℕ → ℕ
order_at key w = order_at_in cpu key w

-- ---- the parts of a row that searches find

-- the place after the one that is found, or where one would stand; on a sorted slice, how many elements are at most the key
abbrev pub after_of : Place → ℕ
after_of (found i) = suc i
after_of (absent i) = i

-- the elements from one place up to another
abbrev pub between {ℓ} : {A : Type ℓ} → ℕ → ℕ → List A → List A
between start end l = take (end - start) (drop start l)

-- the segments left of a tile: up to the last one whose tile x is not at least the tile's
abbrev pub left_part_in : List ℕ → ℤ → List ℕ → List ℕ
left_part_in ws t row = between 0 (after_of (search_of (order_at_in ws (TileXAtLeast t false)) row)) row

-- the segments of a tile: from there up to the last one of the tile
abbrev pub tile_part_in : List ℕ → ℤ → List ℕ → List ℕ
tile_part_in ws t row = between (after_of (search_of (order_at_in ws (TileXAtLeast t false)) row)) (after_of (search_of (order_at_in ws (TileX t)) row)) row

-- the segments of one layer in a tile's part that ascends: from the last one of a lower layer up to the last one of the layer
abbrev pub layer_part_in : List ℕ → ℕ → List ℕ → List ℕ
layer_part_in ws id part = between (after_of (search_of (order_at_in ws (LayerIdAtLeast id false)) part)) (after_of (search_of (order_at_in ws (LayerId id)) part)) part

-- in tiles 16 pixels high
unfoldable pub left_part : ℤ → List ℕ → List ℕ
left_part t row = left_part_in cpu t row

unfoldable pub tile_part : ℤ → List ℕ → List ℕ
tile_part t row = tile_part_in cpu t row

-- what is left of a row up to the last segment of a tile; where nothing of a lower tile is left, the tile's segments (proofs/Cutting)
unfoldable pub up_to_tile : ℤ → List ℕ → List ℕ
up_to_tile t rest = between 0 (after_of (search_of (order_at (TileX t)) rest)) rest

unfoldable pub layer_part : ℕ → List ℕ → List ℕ
layer_part id part = layer_part_in cpu id part
