-- The worked cases P1 to P12, one table in the scope's order, about the definitions that the contracts cite. proofs/Table proves it; the program
-- runs the cases.
use Rattle.std.specs.Prelude.{◌≡◌, ◌∷◌, ◌%◌, ◌^◌, ◌≤◌}
use Rattle.laws.specs.Prelude.{true, false, List, [], Some, None, ℕ, ℤ, pos, replicate, refused, given}
use Rattle.cached_tile.specs.Kept.{write, keep, settle_of, settled_kept}
use Rattle.cached_tile.specs.Tile.{layer_count_of, update_count, update_color}
use Rattle.cached_tile.specs.declared.CachedTile.{CachedTile}
use Rattle.cover_statements.specs.Carry.{add_of}
use Rattle.cover_statements.specs.Cover.{is_empty, is_full}
use Rattle.cover_statements.specs.Coverage.{area_coverage}
use Rattle.cover_statements.specs.Weight.{weight_of}
use Rattle.pixel_segment.specs.Field.{cpu, double_area_of}
use Rattle.pixel_segment.specs.Pack.{pack_of}
use Rattle.segment_rows.specs.Search.{found, absent, search_of, order_at}
use Rattle.segment_rows.specs.declared.search.Key.TheVariants.{LayerId}
use Rattle.styling.specs.declared.FillRule.TheVariants.{NonZero, EvenOdd}
use Rattle.styling.specs.declared.Func.TheVariants.{Clip}
use Rattle.tile_layers.specs.Listing.{layers_in}
use Rattle.pass_statements.specs.Clips.{marks_of}
use Rattle.painter.specs.Clip.{alive_at, clip_after}
use Rattle.painter.specs.Painting.{items_in, needs_in, mark_in, plane_in}
use Rattle.cases.specs.Numbers.{neg, uncovered, half, of324, whole, half_plane, sixteen}
use Rattle.cases.specs.Inputs.{tile_x, tile_y, words, in_row0, first_clip, second_clip, clipped_draw, three_layers, three_carries, given_tile}

pub record Cases : Type 0 where
  -- P1. Layer 5, tile x 2, tile y 0, local x 3, local y 4, multiplier 32 and cover 16 pack to this word
  pub p1 : pack_of cpu (pos 5) (pos 2) (pos 0) (pos 3) (pos 4) (pos 32) (pos 16) ≡ given 0x0020060000534810
  -- P2. With cover -1 it is this word, whose double area is -32
  pub p2_word : pack_of cpu (pos 5) (pos 2) (pos 0) (pos 3) (pos 4) (pos 32) (neg 1) ≡ given 0x002006000053483F
  pub p2_area : double_area_of cpu 0x002006000053483F ≡ neg 32
  -- P3. Tile x -7 is refused by 11, whatever the other fields are (W-203); -1 packs the fields of P1 to this word
  pub p3_refused : (layer ty x y m c : ℤ) → pack_of cpu layer (neg 7) ty x y m c ≡ refused 11
  pub p3_passes : pack_of cpu (pos 5) (neg 1) (pos 0) (pos 3) (pos 4) (pos 32) (pos 16) ≡ given 0x0020000000534810
  -- P4. Packed with tile y 2,046 and any other fields that pack, the tile y reads back; 2,047 is refused by 11, whatever the other fields are
  pub p4_last_y : (layer tx x y m c : ℤ) (w : ℕ) → pack_of cpu layer tx (pos 2046) x y m c ≡ given w → tile_y w ≡ pos 2046
  pub p4_past_y : (layer tx x y m c : ℤ) → pack_of cpu layer tx (pos 2047) x y m c ≡ refused 11
  pub p4_last_y_word : pack_of cpu (pos 5) (pos 2) (pos 2046) (pos 3) (pos 4) (pos 32) (pos 16) ≡ given 0xFFE0060000534810
  -- for tile x the pair is 4,094 and 4,095
  pub p4_last_x : (layer ty x y m c : ℤ) (w : ℕ) → pack_of cpu layer (pos 4094) ty x y m c ≡ given w → tile_x w ≡ pos 4094
  pub p4_past_x : (layer ty x y m c : ℤ) → pack_of cpu layer (pos 4095) ty x y m c ≡ refused 11
  pub p4_last_x_word : pack_of cpu (pos 5) (pos 4094) (pos 0) (pos 3) (pos 4) (pos 32) (pos 16) ≡ given 0x003FFE0000534810
  -- P5. Of the keys 1, 3, 3, 3 and 7, key 3 is found at 3; 0, 4 and 9 are absent, and would stand at 0, 4 and 5; in the empty slice a key is
  -- absent, at 0
  pub p5_found : search_of (order_at (LayerId 3)) words ≡ found 3
  pub p5_before : search_of (order_at (LayerId 0)) words ≡ absent 0
  pub p5_inside : search_of (order_at (LayerId 4)) words ≡ absent 4
  pub p5_after : search_of (order_at (LayerId 9)) words ≡ absent 5
  pub p5_empty : (key : ℕ) → search_of (order_at (LayerId key)) [] ≡ absent 0
  -- P6. Sixteen covers of 32 are empty under EvenOdd and not under NonZero, where they are full (W-205)
  pub p6_empty : is_empty EvenOdd (sixteen (pos 32)) ≡ true
  pub p6_not_empty : is_empty NonZero (sixteen (pos 32)) ≡ false
  pub p6_twice : is_full NonZero (sixteen (pos 32)) ≡ true
  pub p6_twice_even_odd : is_full EvenOdd (sixteen (pos 32)) ≡ false
  -- sixteen of -16 are full under both
  pub p6_full : is_full NonZero (sixteen (neg 16)) ≡ true
  pub p6_full_even_odd : is_full EvenOdd (sixteen (neg 16)) ≡ true
  -- sixteen of 48 are full under both, NonZero by W-205
  pub p6_thrice : is_full NonZero (sixteen (pos 48)) ≡ true
  pub p6_thrice_even_odd : is_full EvenOdd (sixteen (pos 48)) ≡ true
  -- P7. The first clip lives up to layer 2; the second begins while it lives, and keeps that last layer id; so no clip is alive at layer 3
  pub p7_first : clip_after (Clip 1) 1 None ≡ Some 2
  pub p7_second : clip_after (Clip 5) 2 (Some 2) ≡ Some 2
  pub p7_clip : alive_at (Some 2) 3 ≡ None
  -- the pass expects a clip there: it masks off none of the three layers, nor does it free the draw of its clip
  pub p7_unmasked : (marks_of (items_in three_layers (layers_in three_carries []))).unmasked ≡ true ∷ true ∷ true ∷ []
  pub p7_unclipped : (marks_of (items_in three_layers (layers_in three_carries []))).unclipped ≡ false ∷ false ∷ false ∷ []
  pub p7_needs : needs_in three_layers three_carries [] clipped_draw.props.func 3 ≡ true
  -- both clips write their masks, and use no octet
  pub p7_first_plane : plane_in three_carries [] 1 first_clip ≡ half_plane
  pub p7_first_mark : mark_in three_layers three_carries [] 1 first_clip None ≡ 0
  pub p7_second_plane : plane_in three_carries [] 2 second_clip ≡ half_plane
  pub p7_second_mark : mark_in three_layers three_carries [] 2 second_clip (Some 2) ≡ 0
  -- the draw paints nothing: its mark is 0, while its plane gets its coverages
  pub p7_mark : mark_in three_layers three_carries [] 3 clipped_draw (Some 2) ≡ 0
  pub p7_plane : plane_in three_carries [] 3 clipped_draw ≡ half_plane
  -- P8. A count keeps its low 24 bits: 16,777,217 is kept as 1
  pub p8_low_bits : (t : CachedTile) (n : ℕ) → t.tags ≤ 3 → layer_count_of (update_count t (Some n)) ≡ Some (n % 2 ^ 24)
  pub p8_kept : (t : CachedTile) → t.tags ≤ 3 → layer_count_of (update_count t (Some 16777217)) ≡ Some 1
  pub p8_bytes : (t : CachedTile) → (update_count t (Some 16777217)).layer_count ≡ 1 ∷ 0 ∷ 0 ∷ []
  -- a cleared tag leaves its bytes
  pub p8_dropped : (t : CachedTile) → (update_count t None).layer_count ≡ t.layer_count
  pub p8_color_dropped : (t : CachedTile) (bytes : List ℕ) → (update_color t (record { given = false; bytes = bytes })).solid_color ≡ t.solid_color
  -- P9. NonZero: 256 gives 0.5, and -512 gives 1
  pub p9_half : area_coverage NonZero (pos 256) ≡ half
  pub p9_whole : area_coverage NonZero (neg 512) ≡ whole
  -- P10. EvenOdd: 700 has the weight 324 and gives 324 / 512, which is 0.6328125; -256 gives 0.5, and 1,024 gives 0
  pub p10_weight : weight_of EvenOdd (pos 700) ≡ 324
  pub p10_past : area_coverage EvenOdd (pos 700) ≡ of324
  pub p10_half : area_coverage EvenOdd (neg 256) ≡ half
  pub p10_none : area_coverage EvenOdd (pos 1024) ≡ uncovered
  -- P11. Incoming 16 in each row and one segment of cover -16 in row 0 hand on 0, then fifteen times 16
  pub p11 : add_of cpu 16 (sixteen (pos 16)) (in_row0 (neg 16) ∷ []) ≡ given (pos 0 ∷ replicate 15 (pos 16))
  -- P12. From tag 0, the same bytes settled twice: write, then keep. Without a cached tile, write
  pub p12_write : (count was bytes : List ℕ) → settle_of (given_tile 0 count was) bytes ≡ given write
  pub p12_keep : (count was : List ℕ) (r g b a : ℕ) → settle_of (settled_kept (given_tile 0 count was) (r ∷ g ∷ b ∷ a ∷ [])) (r ∷ g ∷ b ∷ a ∷ []) ≡ given keep
  pub p12_without : (t : CachedTile) (bytes : List ℕ) → settle_of (record { given = false; tile = t }) bytes ≡ given write
