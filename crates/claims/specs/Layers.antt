-- Layer records: colours, what is opaque, and looking a layer up. Stands for document 01, 'compared by ==, so NaN equals nothing and both zeros agree'.
use Rattle.std.specs.Prelude.{◌≡◌, ◌&&◌, ◌⊎◌, Option, Some, None}
use Rattle.laws.specs.Prelude.{true, false, List, ℕ, eqb, eq, of_bits, binary32, Float, nan, of_int, pos}
use Rattle.layer_table.specs.declared.Words.{Words}
use Rattle.styling.specs.Color.{same_color}
use Rattle.styling.specs.declared.Color.{Color}
use Rattle.layer_table.specs.Record.{in_range, func_of}
use Rattle.styling.specs.Style.{is_opaque}
use Rattle.layer_table.specs.Lookup.{found_of, record_place, Place, Missing}
use Rattle.layer_table.specs.Table.{table_ids}
use Rattle.styling.specs.Ascending.{strictly_ascends}

pub record LayerRecords : Type 0 where
  -- colours compared by ==: NaN equals nothing, in whichever field and on whichever side; both zeros agree; 0x3F800000 is 1
  pub nan_red : (c d : Color) → (c.r ≡ nan) ⊎ (d.r ≡ nan) → same_color c d ≡ false
  pub nan_green : (c d : Color) → (c.g ≡ nan) ⊎ (d.g ≡ nan) → same_color c d ≡ false
  pub nan_blue : (c d : Color) → (c.b ≡ nan) ⊎ (d.b ≡ nan) → same_color c d ≡ false
  pub nan_alpha : (c d : Color) → (c.a ≡ nan) ⊎ (d.a ≡ nan) → same_color c d ≡ false
  pub zeros_agree : eq (of_bits binary32 0) (of_bits binary32 0x80000000) ≡ true
  pub one_is : of_bits binary32 0x3F800000 ≡ of_int binary32 (pos 1)
  pub opaque_words : (w : Words) (c : Color) → in_range w ≡ true →
      is_opaque (func_of w c) ≡ (eqb w.func 0 && (eqb w.fill 0 && eq c.a (of_bits binary32 0x3F800000) && eqb w.mode 0))
  pub at_place : {words : List ℕ} {floats : List Float} {count id : ℕ} → {r : Option ℕ} {i : ℕ} → r ≡ Some i →
      found_of r ≡ record_place (table_ids words count) id → strictly_ascends (table_ids words count) ≡ true → Place words floats count id i
  pub at_none : {words : List ℕ} {floats : List Float} {count id : ℕ} → {r : Option ℕ} → r ≡ None → found_of r ≡ record_place (table_ids words count) id →
      Missing words floats count id
