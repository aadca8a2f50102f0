-- The curve printed: how long its lines are, and its names before them.
-- Assumes nothing.
use Rattle.std.specs.Prelude.{◌≡◌, ◌*◌, ◌<◌, ◌≤◌}
use Rattle.laws.proofs.Prelude.{ap, List, ℕ, arith, ℤ, pos, length, length-append, tabulate}
use Rattle.styling.specs.declared.FillRule.TheVariants.{EvenOdd}
use Rattle.cover_statements.specs.Weight.{weight_of}
use Rattle.cover_statements.proofs.Weights.{weight_le}
use Rattle.decimal.specs.Decimal.{decimal}
use Rattle.decimal.specs.Print.{Printing}
use Rattle.decimal.proofs.Print.{length_at_most}
use Rattle.lines.specs.Text.{line_text}
use Rattle.lines.proofs.LinesPrinting.{LinesPrinting, end_of, block}
use Rattle.report.specs.Put.{LineWritten}
use Rattle.report.proofs.Lines.{at_front}
use Rattle.curve_text.specs.Curve.{curve_names, curve_line, curve_text}

-- four digits, a space, three digits and LF
pub line_long : (rest : ℕ) → rest < 1024 → length (line_text (curve_line rest)) ≤ 9
unfolding line_text curve_line
line_long rest h =
    let w = weight_of EvenOdd (pos rest) in
    let low : length (decimal w) ≤ 3 = length_at_most 2 w (omega (arith, weight_le EvenOdd (pos rest))) in
    simp length-append (omega (arith, length_at_most 3 rest (omega arith)))

-- a line has two numbers
pub two : (rest : ℕ) {line : List ℤ} → line ≡ curve_line rest → 12 * length line ≡ 24
unfolding curve_line
two rest e = ap (λ (l : List ℤ). 12 * length l) e

pub written : {out out₀ out' : List ℕ} {at end rest : ℕ} → 9252 ≤ length out → Printing curve_names out 0 at out₀ → LinesPrinting curve_line 1024 9 out₀ at end rest out'
    → 1024 ≤ rest → LineWritten curve_text out end out'
unfolding curve_text
written h p v l =
    let q = end_of v l in
    at_front (block curve_names (tabulate 1024 curve_line) p q.0) (omega (arith, q.1, p.answer))
