use Rattle.std.specs.Prelude.{◌≡◌}
use Rattle.laws.proofs.Prelude.{every}
use Rattle.job_lines.specs.Rules.{segment_rule}
use Rattle.job_text_statements.specs.Numbers.{segment_at}
use Rattle.job_numbers.proofs.segment.are_segments.Given as goal

abbrev pub invariant-loop-i : goal.invariant-loop-i
invariant-loop-i l = l.ok ≡ every l.i (λ k. segment_rule (segment_at l.numbers k))
