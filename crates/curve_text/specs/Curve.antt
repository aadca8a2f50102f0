-- The even-odd curve as text. Stands for 'a line of names, `rest weight`, then 1,024 lines: the remainder of d by 1,024 and its EvenOdd
-- weight, ascending'. Its form is that of a block of a job text.
use Rattle.std.specs.Prelude.{◌≡◌, ◌∷◌}
use Rattle.laws.specs.Prelude.{List, [], ℕ, ℤ, pos, length, tabulate}
use Rattle.styling.specs.declared.FillRule.TheVariants.{EvenOdd}
use Rattle.cover_statements.specs.Weight.{weight_of}
use Rattle.lines.specs.Bytes.{bytes}
use Rattle.lines.specs.Text.{block_text}

abbrev pub curve_names : List ℕ
curve_names = bytes "rest weight\n"

-- the line of a remainder: itself, and the EvenOdd weight of every d that has it
unfoldable pub curve_line : ℕ → List ℤ
curve_line rest = pos rest ∷ pos (weight_of EvenOdd (pos rest)) ∷ []

unfoldable pub curve_text : List ℕ
curve_text = block_text curve_names (tabulate 1024 curve_line)

-- its length, of which the curve program has a buffer
abbrev pub curve_room : ℕ
curve_room = 7900

abbrev pub CurveFills : Type 0
CurveFills = length curve_text ≡ curve_room
