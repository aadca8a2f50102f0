-- Cases that the scope does not number: both sides of what packing and adding refuse, covers that are not full for one row, and what an update of
-- a cached tile leaves. proofs/Table proves them.
use Rattle.std.specs.Prelude.{◌≡◌, ◌∷◌}
use Rattle.laws.specs.Prelude.{true, false, List, [], Some, None, ℕ, pos, replicate, refused, given}
use Rattle.cached_tile.specs.Tile.{layer_count_of, update_count, update_color}
use Rattle.cover_statements.specs.Carry.{add_of}
use Rattle.cover_statements.specs.Cover.{is_full}
use Rattle.pixel_segment.specs.Field.{cpu}
use Rattle.pixel_segment.specs.Pack.{pack_of}
use Rattle.styling.specs.declared.FillRule.TheVariants.{NonZero}
use Rattle.cases.specs.Numbers.{neg, sixteen}
use Rattle.cases.specs.Inputs.{in_row0, tagged_tile}

pub record Edges : Type 0 where
  -- the plate maker's layer 2,097,152 is refused by 11, and the last one packs; every other edge of packing stands in pixel_segment/proofs/Edges
  pub layer_past : pack_of cpu (pos 2097152) (pos 2) (pos 0) (pos 3) (pos 4) (pos 32) (pos 16) ≡ refused 11
  pub layer_last : pack_of cpu (pos 2097151) (pos 2) (pos 0) (pos 3) (pos 4) (pos 32) (pos 16) ≡ given 0x002007FFFFF34810
  -- number 9: 120 and -8 are refused, though their sum is 112; 119 and -8 pass
  pub load_refused : add_of cpu 16 (sixteen (pos 120)) (in_row0 (neg 8) ∷ []) ≡ refused 9
  pub load_passes : add_of cpu 16 (sixteen (pos 119)) (in_row0 (neg 8) ∷ []) ≡ given (pos 111 ∷ replicate 15 (pos 119))
  -- W-205: under NonZero every row must have 16 or more, of any byte: one row of 15, or of 0, among fifteen of 48 is too little
  pub row_of_15 : is_full NonZero (pos 15 ∷ replicate 15 (pos 48)) ≡ false
  pub row_of_0 : is_full NonZero (pos 0 ∷ replicate 15 (pos 48)) ≡ false
  pub highest_full : is_full NonZero (sixteen (pos 127)) ≡ true
  pub lowest_full : is_full NonZero (sixteen (neg 128)) ≡ true
  -- a tile of tag 0 keeps no count; once it is counted its tag is 2
  pub no_count : (count color : List ℕ) → layer_count_of (tagged_tile 0 count color) ≡ None
  pub counted_tag : (count color : List ℕ) (n : ℕ) → (update_count (tagged_tile 0 count color) (Some n)).tags ≡ 2
  -- of a tile that keeps both, one is dropped: the other stays kept, and all bytes stay
  pub count_dropped : (count color : List ℕ) → update_count (tagged_tile 3 count color) None ≡ tagged_tile 1 count color
  pub color_dropped : (count color bytes : List ℕ) → update_color (tagged_tile 3 count color) (record { given = false; bytes = bytes }) ≡ tagged_tile 2 count color
