-- W-208 at deciding: what the lent table says of 'unchanged' plays no part, since the list has its own marks; and the smallest frames in which a
-- changed clip repaints, and one in which a changed draw under the cover does not. Stands for 'every pass goes by that mark' and for 'the full-cover
-- pass counts a tile as changed when any listed clip layer is changed, masked off or not'.
use Rattle.std.specs.Prelude.{◌≡◌, ◌∷◌, Option, Some}
use Rattle.laws.specs.Prelude.{Bool, true, false, List, [], map, ℕ, of_bits, binary32, pos, length, replicate}
use Rattle.styling.specs.declared.BlendMode.TheVariants.{Over}
use Rattle.styling.specs.declared.Color.{Color}
use Rattle.styling.specs.declared.Fill.TheVariants.{Solid}
use Rattle.styling.specs.declared.FillRule.TheVariants.{NonZero}
use Rattle.styling.specs.declared.Func.{Func}
use Rattle.styling.specs.declared.Func.TheVariants.{Draw, Clip}
use Rattle.styling.specs.declared.Layer.{Layer}
use Rattle.cached_tile.specs.declared.kept.Kept as kept
use Rattle.pass_statements.specs.Decide.{outcome_of}
use Rattle.pass_statements.specs.Decision.{TileDecision, none, solid}
use Rattle.pass_statements.specs.Entry.{Entry}
use Rattle.pass_statements.specs.Item.{items_of}
use Rattle.layer_workbench.specs.Work.{outcome_by_entries}

-- a layer of which the table says otherwise whether it is unchanged
abbrev pub restated : (Layer → Bool) → Layer → Layer
restated says l = record { id = l.id; props = l.props; is_unchanged = says l }

-- by any other table that differs in these words alone the outcome is the same
abbrev pub MarksAlone : Type 0
MarksAlone =
    (says : Layer → Bool) (table : List Layer) (k : kept.Kept) (clear : Color) (previous : Option Color) (entries : List Entry) →
    outcome_by_entries (map (restated says) table) k clear previous entries ≡ outcome_by_entries table k clear previous entries

-- ---- the second of two frames: as many layers were listed in the first, and the clear colour is the same

abbrev red : Color
red = record { r = of_bits binary32 0x3F800000; g = of_bits binary32 0; b = of_bits binary32 0; a = of_bits binary32 0x3F800000 }

abbrev black : Color
black = record { r = of_bits binary32 0; g = of_bits binary32 0; b = of_bits binary32 0; a = of_bits binary32 0x3F800000 }

abbrev layer : ℕ → Func → Layer
layer id func = record { id = id; props = record { fill_rule = NonZero; func = func }; is_unchanged = false }

abbrev draw : Bool → Func
draw clipped = Draw (record { is_clipped = clipped; fill = Solid red; blend_mode = Over })

-- a layer that is full, and one that has segments in the tile
abbrev full : ℕ → Bool → Entry
full id changed = record { id = id; cover = replicate 16 (pos 16); segments = false; changed = changed }

abbrev half : ℕ → Bool → Entry
half id changed = record { id = id; cover = replicate 16 (pos 0); segments = true; changed = changed }

abbrev second : List Layer → List Entry → TileDecision
second table entries = (outcome_of black true (Some (length entries)) (items_of table entries)).decision

pub record MarkedFrames : Type 0 where
  -- a clip was widened until it is full, and is masked off; the opaque draw that it cut is unchanged
  pub widened : second (layer 1 (Clip 1) ∷ layer 2 (draw true) ∷ []) (full 1 true ∷ full 2 false ∷ []) ≡ solid red 1
  -- a changed clip that is used, under a layer that hides all below it
  pub hidden : second (layer 1 (Clip 1) ∷ layer 2 (draw true) ∷ layer 3 (draw false) ∷ []) (half 1 true ∷ full 2 false ∷ full 3 false ∷ []) ≡ solid red 1
  -- a changed clip past whose span everything lies
  pub unused : second (layer 1 (Clip 0) ∷ layer 2 (draw false) ∷ []) (half 1 true ∷ full 2 false ∷ []) ≡ solid red 1
  -- an unchanged clip and a changed draw under such a layer: the tile is kept
  pub kept_still : second (layer 1 (Clip 1) ∷ layer 2 (draw true) ∷ layer 3 (draw false) ∷ []) (half 1 false ∷ full 2 true ∷ full 3 false ∷ []) ≡ none
