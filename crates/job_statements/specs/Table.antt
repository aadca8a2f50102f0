-- The layer table that a job leaves: eight words a record (id, rule, func, span, clipped, fill, blend mode, unchanged) and four floats (red,
-- green, blue, alpha). Stands for 'alpha is 0 to 256, divided by 256; other colours are 0' and 'every layer counts as changed'.
use Rattle.std.specs.Prelude.{◌∷◌, ◌^◌}
use Rattle.laws.specs.Prelude.{false, List, [], map, flatten, ℕ, Float, binary32, odd, of_bits, ℤ, plus, modℤ}
use Rattle.styling.specs.declared.Color.{Color}
use Rattle.layer_table.specs.declared.Words.{Words}
use Rattle.job_lines.specs.declared.layer.LayerLine.{LayerLine}

-- a number as a word: a negative one as its 32-bit pattern
abbrev pub pattern : ℤ → ℕ
pattern v = modℤ (2 ^ 32) v

-- codes and ids as they stand in the text, and 0 for 'unchanged'
abbrev pub layer_words : LayerLine → List ℕ
layer_words l =
    pattern l.layer ∷ pattern l.rule ∷ pattern l.clip ∷ pattern l.span ∷ pattern l.clipped ∷ pattern l.fill ∷ pattern l.mode ∷ 0 ∷ []

-- alpha × 2^0 / 2^8, not negative, alpha having at most nine digits; it is written in the one way that the toolchain writes a value, with an
-- odd significand. proofs/Alphas shows that this is alpha / 256 and that binary32 holds it
unfoldable pub alpha_of : ℕ → Float
alpha_of alpha = odd 9 false alpha 0 8

-- 0 in binary32
abbrev pub zero_float : Float
zero_float = of_bits binary32 0

abbrev pub layer_colors : LayerLine → List Float
layer_colors l = zero_float ∷ zero_float ∷ zero_float ∷ alpha_of (plus l.alpha) ∷ []

unfoldable pub table_words : List LayerLine → List ℕ
table_words ls = flatten (map layer_words ls)

unfoldable pub table_colors : List LayerLine → List Float
table_colors ls = flatten (map layer_colors ls)

-- ---- the same records as `styling` reads them (proofs/Records)

abbrev pub line_record : LayerLine → Words
line_record l =
    record {
      id = pattern l.layer;
      rule = pattern l.rule;
      func = pattern l.clip;
      span = pattern l.span;
      clipped = pattern l.clipped;
      fill = pattern l.fill;
      mode = pattern l.mode;
      unchanged = 0;
    }

abbrev pub line_color : LayerLine → Color
line_color l = record { r = zero_float; g = zero_float; b = zero_float; a = alpha_of (plus l.alpha) }
