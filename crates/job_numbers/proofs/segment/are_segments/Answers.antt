-- `are_segments` meets its contract: each of its lines was tested. Assumes nothing.
use Rattle.laws.proofs.Prelude.{arith}
use Rattle.job_lines.specs.Rules.{segment_rule}
use Rattle.job_text_statements.specs.Numbers.{segment_at}
use Rattle.job_numbers.proofs.Judging.{judged}
use Rattle.job_numbers.proofs.segment.are_segments.Goals as goal

pub returns : goal.returns
returns c = judged segment_rule (segment_at c.args.numbers.now) c.loop-i.invariant (omega arith)
