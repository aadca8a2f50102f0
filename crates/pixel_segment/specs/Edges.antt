-- Both sides of every edge of what packing accepts, one field after the other beside layer 5, tile x 2, tile y 0, local x 3, local y 4,
-- multiplier 32 and cover 16 (P1); then every field at its lowest and at its highest. What is refused is refused by 11; the words are those
-- of the Rust.
use Rattle.std.specs.Prelude.{◌≡◌}
use Rattle.laws.specs.Prelude.{ℕ, ℤ, pos, negsuc, Answer, refused, given}
use Rattle.pixel_segment.specs.Field.{cpu}
use Rattle.pixel_segment.specs.Pack.{pack_of}

abbrev pack : ℤ → ℤ → ℤ → ℤ → ℤ → ℤ → ℤ → Answer ℕ
pack = pack_of cpu

pub record Edges : Type 0 where
  -- tile y, -2 and -1, 2,046 and 2,047, and 32,767, which the Rust cannot store
  pub tile_y_below : pack (pos 5) (pos 2) (negsuc 1) (pos 3) (pos 4) (pos 32) (pos 16) ≡ refused 11
  pub tile_y_lowest : pack (pos 5) (pos 2) (negsuc 0) (pos 3) (pos 4) (pos 32) (pos 16) ≡ given 0x0000060000534810
  pub tile_y_highest : pack (pos 5) (pos 2) (pos 2046) (pos 3) (pos 4) (pos 32) (pos 16) ≡ given 0xFFE0060000534810
  pub tile_y_above : pack (pos 5) (pos 2) (pos 2047) (pos 3) (pos 4) (pos 32) (pos 16) ≡ refused 11
  pub tile_y_far_above : pack (pos 5) (pos 2) (pos 32767) (pos 3) (pos 4) (pos 32) (pos 16) ≡ refused 11
  -- tile x, -7 (P3), -2 and -1, 4,094 and 4,095, 32,767
  pub tile_x_far_below : pack (pos 5) (negsuc 6) (pos 0) (pos 3) (pos 4) (pos 32) (pos 16) ≡ refused 11
  pub tile_x_below : pack (pos 5) (negsuc 1) (pos 0) (pos 3) (pos 4) (pos 32) (pos 16) ≡ refused 11
  pub tile_x_lowest : pack (pos 5) (negsuc 0) (pos 0) (pos 3) (pos 4) (pos 32) (pos 16) ≡ given 0x0020000000534810
  pub tile_x_highest : pack (pos 5) (pos 4094) (pos 0) (pos 3) (pos 4) (pos 32) (pos 16) ≡ given 0x003FFE0000534810
  pub tile_x_above : pack (pos 5) (pos 4095) (pos 0) (pos 3) (pos 4) (pos 32) (pos 16) ≡ refused 11
  pub tile_x_far_above : pack (pos 5) (pos 32767) (pos 0) (pos 3) (pos 4) (pos 32) (pos 16) ≡ refused 11
  -- layers, -1 and 0, 2,097,151 and 2,097,152, 4,294,967,295
  pub layer_below : pack (negsuc 0) (pos 2) (pos 0) (pos 3) (pos 4) (pos 32) (pos 16) ≡ refused 11
  pub layer_lowest : pack (pos 0) (pos 2) (pos 0) (pos 3) (pos 4) (pos 32) (pos 16) ≡ given 0x0020060000034810
  pub layer_highest : pack (pos 2097151) (pos 2) (pos 0) (pos 3) (pos 4) (pos 32) (pos 16) ≡ given 0x002007FFFFF34810
  pub layer_above : pack (pos 2097152) (pos 2) (pos 0) (pos 3) (pos 4) (pos 32) (pos 16) ≡ refused 11
  pub layer_far_above : pack (pos 4294967295) (pos 2) (pos 0) (pos 3) (pos 4) (pos 32) (pos 16) ≡ refused 11
  -- local x, -1 and 0, 15 and 16
  pub local_x_below : pack (pos 5) (pos 2) (pos 0) (negsuc 0) (pos 4) (pos 32) (pos 16) ≡ refused 11
  pub local_x_lowest : pack (pos 5) (pos 2) (pos 0) (pos 0) (pos 4) (pos 32) (pos 16) ≡ given 0x0020060000504810
  pub local_x_highest : pack (pos 5) (pos 2) (pos 0) (pos 15) (pos 4) (pos 32) (pos 16) ≡ given 0x00200600005F4810
  pub local_x_above : pack (pos 5) (pos 2) (pos 0) (pos 16) (pos 4) (pos 32) (pos 16) ≡ refused 11
  -- local y, -1 and 0, 15 and 16
  pub local_y_below : pack (pos 5) (pos 2) (pos 0) (pos 3) (negsuc 0) (pos 32) (pos 16) ≡ refused 11
  pub local_y_lowest : pack (pos 5) (pos 2) (pos 0) (pos 3) (pos 0) (pos 32) (pos 16) ≡ given 0x0020060000530810
  pub local_y_highest : pack (pos 5) (pos 2) (pos 0) (pos 3) (pos 15) (pos 32) (pos 16) ≡ given 0x002006000053F810
  pub local_y_above : pack (pos 5) (pos 2) (pos 0) (pos 3) (pos 16) (pos 32) (pos 16) ≡ refused 11
  -- multipliers, -1 and 0, 63 and 64
  pub multiplier_below : pack (pos 5) (pos 2) (pos 0) (pos 3) (pos 4) (negsuc 0) (pos 16) ≡ refused 11
  pub multiplier_lowest : pack (pos 5) (pos 2) (pos 0) (pos 3) (pos 4) (pos 0) (pos 16) ≡ given 0x0020060000534010
  pub multiplier_highest : pack (pos 5) (pos 2) (pos 0) (pos 3) (pos 4) (pos 63) (pos 16) ≡ given 0x0020060000534FD0
  pub multiplier_above : pack (pos 5) (pos 2) (pos 0) (pos 3) (pos 4) (pos 64) (pos 16) ≡ refused 11
  -- covers, -33 and -32, 31 and 32
  pub cover_below : pack (pos 5) (pos 2) (pos 0) (pos 3) (pos 4) (pos 32) (negsuc 32) ≡ refused 11
  pub cover_lowest : pack (pos 5) (pos 2) (pos 0) (pos 3) (pos 4) (pos 32) (negsuc 31) ≡ given 0x0020060000534820
  pub cover_highest : pack (pos 5) (pos 2) (pos 0) (pos 3) (pos 4) (pos 32) (pos 31) ≡ given 0x002006000053481F
  pub cover_above : pack (pos 5) (pos 2) (pos 0) (pos 3) (pos 4) (pos 32) (pos 32) ≡ refused 11
  -- all fields at once
  pub all_lowest : pack (pos 0) (negsuc 0) (negsuc 0) (pos 0) (pos 0) (pos 0) (negsuc 31) ≡ given 0x0000000000000020
  pub all_highest : pack (pos 2097151) (pos 4094) (pos 2046) (pos 15) (pos 15) (pos 63) (pos 31) ≡ given 0xFFFFFFFFFFFFFFDF
