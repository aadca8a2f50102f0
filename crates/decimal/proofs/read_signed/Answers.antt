-- `read_signed` meets its contract: each answer is a law of `Signs`.
-- Assumes nothing.
use Rattle.laws.proofs.Prelude.{arith}
use Rattle.decimal.proofs.Signs.{past, positive_value, positive_none, negative_value, negative_zero, negative_none, as_signed, as_negative}
use Rattle.decimal.proofs.read_signed.Goals as goal

pub returns-then-s-at : goal.returns-then-s-at
returns-then-s-at c = past (omega arith)

pub returns-in_err-m : goal.returns-in_err-m
returns-in_err-m c = rw c.from_residual.ensures (negative_none (omega arith) c.if-s-at-eq45.true c.in_err-m.ensures)

pub returns-then-m-eq0 : goal.returns-then-m-eq0
returns-then-m-eq0 c = negative_zero (omega arith) c.if-s-at-eq45.true c.in_ok-m.ensures c.if-m-eq0.true

pub returns-in_err-n : goal.returns-in_err-n
returns-in_err-n c = rw c.from_residual-in_err-n.ensures (positive_none (omega arith) c.if-s-at-eq45.false c.in_err-n.ensures)

pub returns-else-m-eq0 : goal.returns-else-m-eq0
returns-else-m-eq0 c = let w = c.in_ok-m.ensures in rw (as_negative _ w.below) (negative_value (omega arith) c.if-s-at-eq45.true w c.if-m-eq0.false)

pub returns-in_ok-n : goal.returns-in_ok-n
returns-in_ok-n c = let w = c.in_ok-n.ensures in rw (as_signed _ w.below) (positive_value (omega arith) c.if-s-at-eq45.false w)
