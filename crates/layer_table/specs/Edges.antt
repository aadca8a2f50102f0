-- Tables at the edges of refusals 1 and 4: equal ids, blend mode 16 and what is past an edge are refused, and the edges pass. Stands for 1 and 4 of
-- 'Turned down'.
use Rattle.std.specs.Prelude.{◌≡◌, ◌∷◌, ◌++◌, ◌-◌, ◌^◌}
use Rattle.laws.specs.Prelude.{true, false, List, [], ℕ, Float, of_bits, binary32}
use Rattle.styling.specs.Style.{is_opaque}
use Rattle.layer_table.specs.Table.{is_table_short, is_table, layer_at}

abbrev pub draw : ℕ → ℕ → List ℕ
draw id mode = id ∷ 0 ∷ 0 ∷ 0 ∷ 0 ∷ 0 ∷ mode ∷ 0 ∷ []

abbrev pub black : List Float
black = of_bits binary32 0 ∷ of_bits binary32 0 ∷ of_bits binary32 0 ∷ of_bits binary32 0x3F800000 ∷ []

pub record TableEdges : Type 0 where
  -- tables of one or two draws in black, each of an id and a blend mode
  pub equal_ids : is_table (draw 4 0 ++ draw 4 0) (black ++ black) 2 ≡ false
  pub ascending_ids : is_table (draw 4 0 ++ draw 5 0) (black ++ black) 2 ≡ true
  pub mode_15 : is_table (draw 4 15) black 1 ≡ true
  pub mode_16 : is_table (draw 4 16) black 1 ≡ false
  pub id_at_the_limit : is_table (draw 2097151 0) black 1 ≡ true
  pub id_past_the_limit : is_table (draw 2097152 0) black 1 ≡ false
  -- however large the count
  pub short : is_table_short (draw 4 0) black (2 ^ 64 - 1) ≡ true
  -- four floats short of the second record
  pub short_of_floats : is_table_short (draw 4 0 ++ draw 5 0) black 2 ≡ true
  pub opaque_draw : is_opaque (layer_at (draw 4 0) black 0).props.func ≡ true
  pub multiplied_draw : is_opaque (layer_at (draw 4 1) black 0).props.func ≡ false
