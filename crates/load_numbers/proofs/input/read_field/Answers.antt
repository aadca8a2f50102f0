-- `read_field` meets its contract: each answer is a law of `Reading`. Assumes nothing.
use Rattle.laws.proofs.Prelude.{arith}
use Rattle.load_numbers.proofs.Reading.{missing, no_end, other_end, number}
use Rattle.load_numbers.proofs.input.read_field.Goals as goal

pub returns-in_err-n : goal.returns-in_err-n
returns-in_err-n c = rw c.from_residual.ensures (missing _ c.in_err-n.ensures)

pub returns-then-text-next : goal.returns-then-text-next
returns-then-text-next c = no_end _ c.in_ok-n.ensures (omega arith)

pub returns-then-text-next-2 : goal.returns-then-text-next-2
returns-then-text-next-2 c = other_end _ c.in_ok-n.ensures (omega arith) c.if-text-next-2.true

pub overflow_cast-result : goal.overflow_cast-result
overflow_cast-result c = omega (arith, c.in_ok-n.ensures.below, c.requires)

pub returns : goal.returns
returns c = number _ c.in_ok-n.ensures (omega arith) c.if-text-next-2.false
