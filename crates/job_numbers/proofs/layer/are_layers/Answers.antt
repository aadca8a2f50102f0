-- `are_layers` meets its contract: each of its lines was tested. Assumes nothing.
use Rattle.laws.proofs.Prelude.{arith}
use Rattle.job_lines.specs.Rules.{layer_rule}
use Rattle.job_text_statements.specs.Numbers.{layer_line_at}
use Rattle.job_numbers.proofs.Judging.{judged}
use Rattle.job_numbers.proofs.layer.are_layers.Goals as goal

pub returns : goal.returns
returns c = judged layer_rule (layer_line_at c.args.numbers.now) c.loop-i.invariant (omega arith)
