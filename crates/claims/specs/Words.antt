-- Packed words over any table of seven widths, and at every tile height: each field of a word reads back, packing is exact, and order is that of tile y,
-- tile x and layer. Stands for document 01, 'consts.rs, cpu/pixel_segment.rs', and for W-203 and W-213.
use Rattle.std.specs.Prelude.{◌∷◌, ◌≡◌, ◌≤◌, ◌<◌, ◌%◌, ◌^◌, ◌/◌, ◌-◌}
use Rattle.laws.specs.Prelude.{List, [], true, ℕ, length, get_or, ℤ, modℤ, plus, minus, given}
use Rattle.pixel_segment.specs.Field.{field_of, width_of, cover_of, cpu, widths_at, gpu, tile_y_of, tile_x_of, layer_id_of}
use Rattle.pixel_segment.specs.Pack.{join, word_of, stored_of, FieldsInRange, ReadsBack, pack_of, Same, is_packable}
use Rattle.pixel_segment.specs.Layout.{Layout, Keyed, Compared}
use Rattle.pixel_segment.specs.Order.{order_key, compare_of, then_by}
use Rattle.pixel_segment.specs.Edges.{Edges}
use Rattle.pixel_segment_gpu.specs.Edges as gpuEdges

pub record PackedWords : Type 0 where
  -- field k is the k-th number, modulo its width
  pub field_back : (ws xs : List ℕ) (k : ℕ) → length ws ≤ length xs → k < length ws → field_of ws k (join ws xs 0) ≡ get_or xs k 0 % 2 ^ width_of ws k
  -- each field of the word, modulo its width: layer ids keep their low bits, and so on
  pub fields_kept : (ws : List ℕ) (layout : Layout ws) (layer : ℕ) (tx ty : ℤ) (x y m : ℕ) (c : ℤ) → (k : ℕ) → k < 7 →
      field_of ws k (word_of ws layer tx ty x y m c)
      ≡ get_or (stored_of ty ∷ stored_of tx ∷ layer ∷ x ∷ y ∷ m ∷ modℤ (2 ^ width_of ws 6) c ∷ []) k 0 % 2 ^ width_of ws k
  pub reads_back : (ws : List ℕ) (layout : Layout ws) (layer tx ty x y m c : ℤ) → FieldsInRange ws layer tx ty x y m c →
      ReadsBack ws (word_of ws (plus layer) tx ty (plus x) (plus y) (plus m) c) layer tx ty x y m c
  pub given_back : (ws : List ℕ) (layout : Layout ws) (layer tx ty x y m c : ℤ) → {w : ℕ} → pack_of ws layer tx ty x y m c ≡ given w →
      ReadsBack ws w layer tx ty x y m c
  -- two packings that are accepted and give one word have the same seven numbers
  pub packs_apart : (ws : List ℕ) → Layout ws → (layer tx ty x y m c layer' tx' ty' x' y' m' c' : ℤ) {w : ℕ} →
      pack_of ws layer tx ty x y m c ≡ given w → pack_of ws layer' tx' ty' x' y' m' c' ≡ given w → Same layer tx ty x y m c layer' tx' ty' x' y' m' c'
  pub in_range_lem : (ws : List ℕ) (layout : Layout ws) (layer tx ty x y m c : ℤ) → is_packable ws layer tx ty x y m c ≡ true →
      FieldsInRange ws layer tx ty x y m c
  pub packable : (ws : List ℕ) (layout : Layout ws) (layer tx ty x y m c : ℤ) → FieldsInRange ws layer tx ty x y m c →
      is_packable ws layer tx ty x y m c ≡ true
  -- a cover is -32 to 31
  pub in_cover : (w : ℕ) → (plus (cover_of cpu w) ≤ 31) × (minus (cover_of cpu w) ≤ 32)
  pub keyed_at : (k : ℕ) → k ≤ 15 → Keyed (widths_at k)
  pub upper_46 : (w : ℕ) → order_key gpu w ≡ w / 2 ^ 18
  -- a key has the bits above them
  pub key_lt : (k w : ℕ) → k ≤ 15 → w < 2 ^ 64 → order_key (widths_at k) w < 2 ^ (48 - k)
  -- order is that of tile y, tile x, layer id
  pub lexical : (ws : List ℕ) (t : Keyed ws) → (v w : ℕ) → v < 2 ^ 64 → w < 2 ^ 64 →
      compare_of (order_key ws v) (order_key ws w) ≡
      then_by (compare_of (tile_y_of ws v) (tile_y_of ws w)) (then_by (compare_of (tile_x_of ws v) (tile_x_of ws w)) (compare_of (layer_id_of ws v) (layer_id_of ws w)))
  pub order_of_fields : (ws : List ℕ) (layout : Layout ws) (t : Keyed ws) → Compared ws
  -- both sides of every edge of what packing accepts, at 16 and at 4
  pub edges : Edges
  pub gpu_edges : gpuEdges.Edges
