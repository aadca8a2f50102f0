-- What the passes ask of a layer. Stands for 'opaque is fill 0, blend mode 0, alpha 1', for the clipped draw, and for the colour that a
-- solid tile is mixed from. A clip is no draw, whatever else its record says.
use Rattle.std.specs.Prelude.{◌&&◌}
use Rattle.laws.specs.Prelude.{Bool, false, Option, Some, None, eqb, eq, of_bits, binary32}
use Rattle.styling.specs.declared.Color.{Color}
use Rattle.styling.specs.declared.Fill.{Fill}
use Rattle.styling.specs.declared.Fill.TheVariants.{Solid, Gradient, Texture}
use Rattle.styling.specs.declared.Func.{Func}
use Rattle.styling.specs.declared.Func.TheVariants.{Draw, Clip}
use Rattle.styling.specs.Codes.{mode_code}

abbrev pub is_clipped_of : Func → Bool
is_clipped_of (Draw s) = s.is_clipped
is_clipped_of (Clip n) = false

abbrev pub fill_color : Fill → Option Color
fill_color (Solid c) = Some c
fill_color Gradient = None
fill_color Texture = None

-- the colour of a draw with a solid fill
abbrev pub solid_color : Func → Option Color
solid_color (Draw s) = fill_color s.fill
solid_color (Clip n) = None

-- alpha is 1, by ==; 0x3F800000 is 1 in binary32
abbrev pub has_alpha_one : Option Color → Bool
has_alpha_one (Some c) = eq c.a (of_bits binary32 0x3F800000)
has_alpha_one None = false

abbrev pub is_opaque : Func → Bool
is_opaque (Draw s) = has_alpha_one (fill_color s.fill) && eqb (mode_code s.blend_mode) 0
is_opaque (Clip n) = false
