-- The cases of specs/Examples and how long the curve is, computed. Assumes nothing.
use Rattle.laws.proofs.Prelude.{refl}
use Rattle.decimal.specs.Decimal.{decimal, decimal_in}
use Rattle.lines.specs.Text.{line_text, lines_text, block_text}
use Rattle.curve_text.specs.Curve.{curve_line, curve_text, CurveFills}
use Rattle.curve_text.specs.Examples.{CurveLines}

pub curve_lines : CurveLines
unfolding block_text curve_line decimal decimal_in line_text lines_text
curve_lines = record { first_three = refl; greatest_line = refl }

pub fills : CurveFills
unfolding curve_text block_text lines_text line_text decimal decimal_in curve_line
fills = refl
