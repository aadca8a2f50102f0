use Rattle.std.specs.Prelude.{◌≡◌}
use Rattle.laws.proofs.Prelude.{every}
use Rattle.job_lines.specs.Rules.{layer_rule}
use Rattle.job_text_statements.specs.Numbers.{layer_line_at}
use Rattle.job_numbers.proofs.layer.are_layers.Given as goal

abbrev pub invariant-loop-i : goal.invariant-loop-i
invariant-loop-i l = l.ok ≡ every l.i (λ k. layer_rule (layer_line_at l.numbers k))
