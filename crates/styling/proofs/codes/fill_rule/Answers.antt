-- `styling::codes::fill_rule` meets its contract.
-- Assumes nothing.
use Rattle.laws.proofs.Prelude.{sym, arith, take}
use Rattle.styling.specs.declared.FillRule.TheVariants.{EvenOdd}
use Rattle.styling.specs.Codes.{rules}
use Rattle.styling.proofs.Coded.{last_case}
use Rattle.styling.proofs.codes.fill_rule.Goals as goal

pub returns-else-code-eq0 : goal.returns-else-code-eq0
returns-else-code-eq0 c = sym (last_case (take 1 rules) EvenOdd c.args.code (omega arith))
