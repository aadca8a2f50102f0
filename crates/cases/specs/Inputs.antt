-- What the cases are about: words, a tile's three layers, cached tiles.
use Rattle.std.specs.Prelude.{◌∷◌}
use Rattle.laws.specs.Prelude.{true, false, List, [], ℕ, ℤ, pos}
use Rattle.cached_tile.specs.declared.CachedTile.{CachedTile}
use Rattle.cached_tile.specs.declared.kept.Kept.{Kept}
use Rattle.pixel_segment.specs.Field.{cpu, tile_of, tile_x_of, tile_y_of}
use Rattle.pixel_segment.specs.Pack.{word_of}
use Rattle.styling.specs.declared.BlendMode.TheVariants.{Over}
use Rattle.styling.specs.declared.Fill.TheVariants.{Gradient}
use Rattle.styling.specs.declared.FillRule.TheVariants.{NonZero}
use Rattle.styling.specs.declared.Func.{Func}
use Rattle.styling.specs.declared.Func.TheVariants.{Draw, Clip}
use Rattle.styling.specs.declared.Layer.{Layer}
use Rattle.queue_statements.specs.Queue.{Carry}
use Rattle.cases.specs.Numbers.{sixteen}

-- ---- words

-- the tile numbers of a word, as the program reads them
abbrev pub tile_x : ℕ → ℤ
tile_x w = tile_of (tile_x_of cpu w)

abbrev pub tile_y : ℕ → ℤ
tile_y w = tile_of (tile_y_of cpu w)

-- words of the layers 1, 3, 3, 3 and 7
abbrev pub words : List ℕ
words = 0x100000 ∷ 0x300000 ∷ 0x300000 ∷ 0x300000 ∷ 0x700000 ∷ []

-- a segment of layer 5, tile 2, in pixel row 0, with the cover c
abbrev pub in_row0 : ℤ → ℕ
in_row0 c = word_of cpu 5 (pos 2) (pos 0) 3 0 32 c

-- ---- the tile of P7: clip layer 1 with span 1, clip layer 2 with span 5, and a clipped draw at 3, each with half a cover in every row from
-- the left, and without a segment in the tile

abbrev pub layer_with : ℕ → Func → Layer
layer_with id func = record { id = id; props = record { fill_rule = NonZero; func = func }; is_unchanged = false }

abbrev pub first_clip : Layer
first_clip = layer_with 1 (Clip 1)

abbrev pub second_clip : Layer
second_clip = layer_with 2 (Clip 5)

abbrev pub clipped_draw : Layer
clipped_draw = layer_with 3 (Draw (record { is_clipped = true; fill = Gradient; blend_mode = Over }))

abbrev pub three_layers : List Layer
three_layers = first_clip ∷ second_clip ∷ clipped_draw ∷ []

abbrev pub half_carry : ℕ → Carry
half_carry id = record { id = id; cover = sixteen (pos 8) }

abbrev pub three_carries : List Carry
three_carries = half_carry 1 ∷ half_carry 2 ∷ half_carry 3 ∷ []

-- ---- cached tiles

-- a tile with a tag, a count and a colour, and that tile given
abbrev pub tagged_tile : ℕ → List ℕ → List ℕ → CachedTile
tagged_tile tags count color = record { tags = tags; layer_count = count; solid_color = color }

abbrev pub given_tile : ℕ → List ℕ → List ℕ → Kept
given_tile tags count color = record { given = true; tile = tagged_tile tags count color }
