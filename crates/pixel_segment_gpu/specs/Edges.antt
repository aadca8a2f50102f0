-- Worked packings for tiles four pixels high, beside the edges of what is accepted: layer 5, tile x 2, tile y 0, local x 3, local y 3, multiplier
-- 32 and cover 16, and what differs from it. The words are those of the Rust at that height; what is refused is refused by 11. Then two words
-- that compare as equal, and P5's answers.
use Rattle.std.specs.Prelude.{◌≡◌, ◌∷◌}
use Rattle.laws.specs.Prelude.{List, [], ℕ, ℤ, pos, negsuc, Answer, refused, given}
use Rattle.pixel_segment.specs.Field.{gpu, double_area_of}
use Rattle.pixel_segment.specs.Order.{order_key, compare_of}
use Rattle.pixel_segment.specs.Pack.{pack_of}
use Rattle.segment_rows.specs.Search.{Place, found, absent, search_of, order_at_in}
use Rattle.segment_rows.specs.declared.search.Key.TheVariants.{LayerId}

abbrev pack : ℤ → ℤ → ℤ → ℤ → ℤ → ℤ → ℤ → Answer ℕ
pack = pack_of gpu

-- layers 1, 3, 3, 3, 7
abbrev words : List ℕ
words = 0x40000 ∷ 0xC0000 ∷ 0xC0000 ∷ 0xC0000 ∷ 0x1C0000 ∷ []

abbrev layer : ℕ → Place
layer id = search_of (order_at_in gpu (LayerId id)) words

pub record Edges : Type 0 where
  pub whole : pack (pos 5) (pos 2) (pos 0) (pos 3) (pos 3) (pos 32) (pos 16) ≡ given 0x000801800014F810
  pub cover_minus_1 : pack (pos 5) (pos 2) (pos 0) (pos 3) (pos 3) (pos 32) (negsuc 0) ≡ given 0x000801800014F83F
  pub area_minus_32 : double_area_of gpu 0x000801800014F83F ≡ negsuc 31
  -- tile y, -2 and -1, 2,047, 8,190 and 8,191
  pub tile_y_below : pack (pos 5) (pos 2) (negsuc 1) (pos 3) (pos 3) (pos 32) (pos 16) ≡ refused 11
  pub tile_y_lowest : pack (pos 5) (pos 2) (negsuc 0) (pos 3) (pos 0) (pos 32) (pos 16) ≡ given 0x000001800014C810
  pub tile_y_2047 : pack (pos 5) (pos 2) (pos 2047) (pos 3) (pos 3) (pos 32) (pos 16) ≡ given 0x400001800014F810
  pub tile_y_highest : pack (pos 5) (pos 2) (pos 8190) (pos 3) (pos 3) (pos 32) (pos 16) ≡ given 0xFFF801800014F810
  pub tile_y_above : pack (pos 5) (pos 2) (pos 8191) (pos 3) (pos 3) (pos 32) (pos 16) ≡ refused 11
  -- tile x 4,095, local y 4, layer 2,097,152
  pub tile_x_above : pack (pos 5) (pos 4095) (pos 0) (pos 3) (pos 3) (pos 32) (pos 16) ≡ refused 11
  pub local_y_above : pack (pos 5) (pos 2) (pos 0) (pos 3) (pos 4) (pos 32) (pos 16) ≡ refused 11
  pub layer_above : pack (pos 2097152) (pos 2) (pos 0) (pos 3) (pos 3) (pos 32) (pos 16) ≡ refused 11
  -- all fields at their highest, and another word
  pub all_highest : pack (pos 2097151) (pos 4094) (pos 8190) (pos 15) (pos 3) (pos 63) (pos 31) ≡ given 0xFFFFFFFFFFFFFFDF
  pub another : pack (pos 7) (pos 0) (pos 0) (pos 1) (pos 2) (pos 32) (negsuc 15) ≡ given 0x00080080001C6830
  -- order compares the upper 46 bits
  pub key : order_key gpu 0x000801800014F810 ≡ 0x200600005
  pub other_fields : pack (pos 5) (pos 2) (pos 0) (pos 15) (pos 0) (pos 0) (negsuc 31) ≡ given 0x000801800017C020
  pub compare_equal : compare_of (order_key gpu 0x000801800014F810) (order_key gpu 0x000801800017C020) ≡ 1
  -- P5
  pub layer_3 : layer 3 ≡ found 3
  pub layer_0 : layer 0 ≡ absent 0
  pub layer_4 : layer 4 ≡ absent 4
  pub layer_9 : layer 9 ≡ absent 5
  pub no_words : search_of (order_at_in gpu (LayerId 3)) [] ≡ absent 0
