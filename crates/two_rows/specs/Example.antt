-- Two rows that agree on layer 5, a clipped draw, and differ in its table's word and in what rests on other layers: whether it is changed, which layers
-- are masked off, how many are skipped, the decision, and the layer's mark. In the first it stands alone; in the second a clip lies below it and an opaque draw over it. proofs/Example has it.
use Rattle.std.specs.Prelude.{◌≡◌, ◌∷◌, ◌++◌}
use Rattle.laws.specs.Prelude.{Bool, true, false, List, [], map, Some, None, ℕ, Float, binary32, of_bits, pos, negsuc}
use Rattle.laws.specs.Prelude.{replicate, tabulate}
use Rattle.pixel_segment.specs.Field.{cpu}
use Rattle.pixel_segment.specs.Pack.{word_of}
use Rattle.styling.specs.declared.Color.{Color}
use Rattle.cached_tile.specs.Kept.{no_tile}
use Rattle.pass_statements.specs.Decide.{Outcome}
use Rattle.pass_statements.specs.Decision.{solid}
use Rattle.layer_workbench.specs.Work.{entry_of}
use Rattle.row_statements.specs.Due.{OpenRow, table_on, layers_on, outcome_on, mark_on}
use Rattle.two_rows.specs.Apart.{AgreeOn}

-- a layer's segments in tile -1: cover 16 in each of the pixel rows below n
abbrev segments : ℕ → ℕ → List ℕ
segments layer n = tabulate n (λ y. word_of cpu layer (negsuc 0) (pos 0) 3 y 32 (pos 16))

abbrev red : Color
red = record { r = of_bits binary32 0x3F800000; g = of_bits binary32 0; b = of_bits binary32 0; a = of_bits binary32 0x3F800000 }

abbrev clear : Color
clear = record { r = of_bits binary32 0; g = of_bits binary32 0; b = of_bits binary32 0; a = of_bits binary32 0 }

-- the records of a clip of span 9, a clipped draw, changed or not, and an opaque one
abbrev clip : ℕ → List ℕ
clip id = id ∷ 0 ∷ 1 ∷ 9 ∷ 0 ∷ 0 ∷ 0 ∷ 0 ∷ []

abbrev clipped : ℕ → ℕ → List ℕ
clipped id unchanged = id ∷ 0 ∷ 0 ∷ 0 ∷ 1 ∷ 0 ∷ 0 ∷ unchanged ∷ []

abbrev opaque : ℕ → List ℕ
opaque id = id ∷ 0 ∷ 0 ∷ 0 ∷ 0 ∷ 0 ∷ 0 ∷ 0 ∷ []

abbrev reds : ℕ → List Float
reds n = replicate n (of_bits binary32 0x3F800000)

abbrev pub alone : OpenRow
alone = record { tile_y = 0; from = 0; to = 1; row = segments 5 16; table = record { words = clipped 5 0; floats = reds 4; count = 1 } }

abbrev pub among : OpenRow
among =
    record {
      tile_y = 0;
      from = 0;
      to = 1;
      row = segments 3 1 ++ (segments 5 16 ++ segments 7 16);
      table = record { words = clip 3 ++ (clipped 5 1 ++ opaque 7); floats = reds 12; count = 3 };
    }

-- which listed layers of the tile are changed
abbrev changes : OpenRow → List Bool
changes o = map (λ e. e.changed) (map (entry_of (table_on o)) (layers_on o 0))

abbrev decided : OpenRow → Outcome
decided o = outcome_on o 0 no_tile clear None

pub record Differing : Type 0 where
  pub agree : AgreeOn 5 alone among
  pub changed : (changes alone ≡ true ∷ []) × (changes among ≡ true ∷ false ∷ true ∷ [])
  pub masks : ((decided alone).unmasked ≡ false ∷ []) × ((decided among).unmasked ≡ true ∷ true ∷ true ∷ [])
  pub skips : ((decided alone).skipped ≡ 0) × ((decided among).skipped ≡ 2)
  pub decisions : ((decided alone).decision ≡ solid clear 0) × ((decided among).decision ≡ solid (record { r = of_bits binary32 0x3F800000; g = of_bits binary32 0x3F800000; b = of_bits binary32 0x3F800000; a = of_bits binary32 0x3F800000 }) 1)
  -- the first row has no clip for the layer; in the second it is painted after the clip, which lives up to layer 12
  pub marks : (mark_on alone 0 5 None ≡ 0) × (mark_on among 0 5 (Some 12) ≡ 0xFFFFFFFF)
