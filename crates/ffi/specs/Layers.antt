-- Colours as four numbers, and a draw as the numbers of a layer record.
use Rattle.std.specs.Prelude.{Option, Some, None}
use Rattle.laws.specs.Prelude.{Bool, false, cond, List, ℕ, Float, nan, get_or}
use Rattle.styling.specs.declared.Color.{Color}
use Rattle.styling.specs.declared.Func.{Func}
use Rattle.styling.specs.declared.Func.TheVariants.{Draw}
use Rattle.styling.specs.Codes.{fill_of, mode_of}

-- red, green, blue and alpha
abbrev pub color_from : List Float → Color
color_from l = record { r = get_or l 0 nan; g = get_or l 1 nan; b = get_or l 2 nan; a = get_or l 3 nan }

-- the clear colour of the frame before, where one is given
abbrev pub previous_of : Bool → List Float → Option Color
previous_of is l = cond is (Some (color_from l)) None

abbrev pub draw_of : ℕ → ℕ → List Float → Func
draw_of fill mode color =
    Draw (record { is_clipped = false; fill = fill_of fill (color_from color); blend_mode = mode_of mode })
