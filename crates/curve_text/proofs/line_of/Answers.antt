-- `line_of` meets its contract: both numbers are small enough for every width that they pass.
-- Assumes nothing.
use Rattle.std.specs.Prelude.{◌≡◌}
use Rattle.laws.proofs.Prelude.{ap, ◌∙◌, arith, pos, w16, w32}
use mir.ValLaws.{to_z_pos}
use Rattle.styling.specs.declared.FillRule.TheVariants.{EvenOdd}
use Rattle.cover_statements.specs.Weight.{weight_of}
use Rattle.cover_statements.proofs.Weights.{weight_le}
use Rattle.curve_text.specs.Curve.{curve_line}
use Rattle.curve_text.proofs.line_of.Goals as goal

pub returns : goal.returns
unfolding curve_line
returns c =
    let rest = c.args.rest in
    let weight : c.weight-weight.result ≡ weight_of EvenOdd (pos rest) = c.weight-weight.ensures ∙ ap (weight_of EvenOdd) (to_z_pos w16 rest (omega arith)) in
    rw (to_z_pos w32 rest (omega arith), to_z_pos w32 c.weight-weight.result (omega (arith, weight_le EvenOdd (pos rest))), weight)
