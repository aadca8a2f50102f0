-- `starts_number` meets its contract: each answer is a law of `Starting`.
-- Assumes nothing.
use Rattle.laws.proofs.Prelude.{arith}
use Rattle.lines.proofs.Starting.{past, first}
use Rattle.lines.proofs.starts_number.Goals as goal

pub returns-then-s-at : goal.returns-then-s-at
returns-then-s-at c = past c.args.s.now c.args.at (omega arith)

pub returns : goal.returns
returns c = first c.args.s.now c.args.at (omega arith) c.is_digit.ensures
