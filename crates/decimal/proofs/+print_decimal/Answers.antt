-- `print_decimal`, which calls itself, meets its contract: the last digit after the print of the others.
-- Assumes nothing.
use Rattle.laws.proofs.Prelude.{arith}
use Rattle.decimal.proofs.Print.{length_one, length_more, print_one, print_more}
use Rattle.decimal.proofs.+print_decimal.Goals as goal

pub bounds-out-at : goal.bounds-out-at
bounds-out-at t c = omega (arith, length_one c.args.n c.if-n-lt10.true)

pub returns-then-n-lt10 : goal.returns-then-n-lt10
returns-then-n-lt10 t c = print_one c.args.n c.if-n-lt10.true

pub print_decimal-last-requires : goal.print_decimal-last-requires
print_decimal-last-requires t c = (omega arith, omega (arith, length_more c.args.n (omega arith)))

pub bounds-out-last : goal.bounds-out-last
bounds-out-last t c = omega (arith, c.print_decimal-last.ensures.answer, c.print_decimal-last.auto.out, length_more c.args.n (omega arith))

pub overflow_add-result-2 : goal.overflow_add-result-2
overflow_add-result-2 t c = omega (arith, c.print_decimal-last.ensures.answer, length_more c.args.n (omega arith))

pub returns : goal.returns
returns t c = print_more c.args.n (omega arith) c.print_decimal-last.ensures
