-- The number of each case of an enum, as a layer record has it, and the case of each number. Stands for 'rule (0 NonZero, 1 EvenOdd),
-- draw or clip (0 draw, 1 clip), .. fill (0 solid, 1 gradient, 2 texture), blend mode 0 to 15 in the order of `BlendMode`'.
-- proofs/Coded has that the two directions agree.
use Rattle.std.specs.Prelude.{◌∷◌}
use Rattle.laws.specs.Prelude.{List, [], ℕ, get_or}
use Rattle.styling.specs.declared.Color.{Color}
use Rattle.styling.specs.declared.FillRule.{FillRule}
use Rattle.styling.specs.declared.FillRule.TheVariants.{NonZero, EvenOdd}
use Rattle.styling.specs.declared.Fill.{Fill}
use Rattle.styling.specs.declared.Fill.TheVariants.{Solid, Gradient, Texture}
use Rattle.styling.specs.declared.Func.{Func}
use Rattle.styling.specs.declared.Func.TheVariants.{Draw, Clip}
use Rattle.styling.specs.declared.BlendMode.{BlendMode}
use Rattle.styling.specs.declared.BlendMode.TheVariants.{Over, Multiply, Screen, Overlay, Darken, Lighten, ColorDodge, ColorBurn, HardLight, SoftLight, Difference, Exclusion, Hue, Saturation, Luminosity}

-- ---- the number of a case

abbrev pub rule_code : FillRule → ℕ
rule_code NonZero = 0
rule_code EvenOdd = 1

abbrev pub func_code : Func → ℕ
func_code (Draw s) = 0
func_code (Clip n) = 1

abbrev pub fill_code : Fill → ℕ
fill_code (Solid c) = 0
fill_code Gradient = 1
fill_code Texture = 2

abbrev pub mode_code : BlendMode → ℕ
mode_code Over = 0
mode_code Multiply = 1
mode_code Screen = 2
mode_code Overlay = 3
mode_code Darken = 4
mode_code Lighten = 5
mode_code ColorDodge = 6
mode_code ColorBurn = 7
mode_code HardLight = 8
mode_code SoftLight = 9
mode_code Difference = 10
mode_code Exclusion = 11
mode_code Hue = 12
mode_code Saturation = 13
mode_code BlendMode.Color = 14
mode_code Luminosity = 15

-- ---- the case of a number: its place in the list of cases. Past the list, which a judged table never is, the last case

abbrev pub rules : List FillRule
rules = NonZero ∷ EvenOdd ∷ []

abbrev pub rule_of : ℕ → FillRule
rule_of n = get_or rules n EvenOdd

abbrev pub fills : Color → List Fill
fills c = Solid c ∷ Gradient ∷ Texture ∷ []

abbrev pub fill_of : ℕ → Color → Fill
fill_of n c = get_or (fills c) n Texture

abbrev pub modes : List BlendMode
modes =
    Over ∷ Multiply ∷ Screen ∷ Overlay ∷ Darken ∷ Lighten ∷ ColorDodge ∷ ColorBurn ∷ HardLight ∷ SoftLight ∷ Difference ∷ Exclusion ∷ Hue ∷ Saturation ∷ BlendMode.Color ∷ Luminosity ∷ []

abbrev pub mode_of : ℕ → BlendMode
mode_of n = get_or modes n Luminosity
