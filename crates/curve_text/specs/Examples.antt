-- Lines of the curve as they are printed: the names and the first three, and the one of greatest weight. Stands for W-201.
use Rattle.std.specs.Prelude.{◌≡◌}
use Rattle.laws.specs.Prelude.{tabulate}
use Rattle.lines.specs.Bytes.{bytes}
use Rattle.lines.specs.Text.{line_text, block_text}
use Rattle.curve_text.specs.Curve.{curve_names, curve_line}

pub record CurveLines : Type 0 where
  pub first_three : block_text curve_names (tabulate 3 curve_line) ≡ bytes "rest weight\n0 0\n1 1\n2 2\n"
  pub greatest_line : line_text (curve_line 512) ≡ bytes "512 512\n"
