-- `read_unsigned` meets its contract. The invariant and its steps are those of `Reading`.
-- Assumes nothing.
use Rattle.laws.proofs.Prelude.{arith, get_or}
use Rattle.decimal.proofs.Steps.{digit_range, is_false, is_true}
use Rattle.decimal.proofs.Reading.{past, none, start, stop, end, after_zero, too_large, next}
use Rattle.decimal.proofs.read_unsigned.Goals as goal

pub returns-then-s-at : goal.returns-then-s-at
returns-then-s-at c = past c.requires.0 (omega arith)

pub returns-then-not-is_digit : goal.returns-then-not-is_digit
returns-then-not-is_digit c = none c.requires.0 (omega arith) (is_false c.is_digit.ensures c.if-not-is_digit.true)

pub overflow_sub-n : goal.overflow_sub-n
overflow_sub-n c = omega (arith, digit_range (get_or c.args.s.now c.args.at 0) (is_true c.is_digit.ensures c.if-not-is_digit.false))

pub overflow_cast-n : goal.overflow_cast-n
overflow_cast-n c = omega (arith, c.type_inv.s c.args.at)

pub loop-i-init : goal.loop-i-init
loop-i-init c = start c.requires.0 (omega arith) (is_true c.is_digit.ensures c.if-not-is_digit.false)

pub returns-then-not-is_digit-2 : goal.returns-then-not-is_digit-2
returns-then-not-is_digit-2 c = stop c.loop-i.invariant (omega arith) (is_false c.is_digit-in-loop-i.ensures c.if-not-is_digit-2.true)

pub returns-then-n-eq0 : goal.returns-then-n-eq0
returns-then-n-eq0 c = after_zero c.loop-i.invariant (omega arith) (is_true c.is_digit-in-loop-i.ensures c.if-not-is_digit-2.false) (omega arith)

pub overflow_sub-longer : goal.overflow_sub-longer
overflow_sub-longer c = omega (arith, digit_range (get_or c.args.s.now c.loop-i.i 0) (is_true c.is_digit-in-loop-i.ensures c.if-not-is_digit-2.false))

pub overflow_cast-longer : goal.overflow_cast-longer
overflow_cast-longer c = omega (arith, digit_range (get_or c.args.s.now c.loop-i.i 0) (is_true c.is_digit-in-loop-i.ensures c.if-not-is_digit-2.false))

pub overflow_add-longer : goal.overflow_add-longer
overflow_add-longer c = omega (arith, digit_range (get_or c.args.s.now c.loop-i.i 0) (is_true c.is_digit-in-loop-i.ensures c.if-not-is_digit-2.false))

pub returns-then-limit-longer : goal.returns-then-limit-longer
returns-then-limit-longer c = too_large c.loop-i.invariant (omega arith) (is_true c.is_digit-in-loop-i.ensures c.if-not-is_digit-2.false) c.if-n-eq0.false (omega arith)

pub loop-i-preserved : goal.loop-i-preserved
loop-i-preserved c = next c.loop-i.invariant (omega arith) (is_true c.is_digit-in-loop-i.ensures c.if-not-is_digit-2.false) c.if-n-eq0.false (omega arith)

pub returns : goal.returns
returns c = end c.loop-i.invariant (omega arith)
