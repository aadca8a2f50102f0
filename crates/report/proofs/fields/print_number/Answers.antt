-- `print_number` meets its contract.
-- Assumes nothing.
use Rattle.laws.proofs.Prelude.{arith}
use Rattle.decimal.proofs.Print.{ten}
use Rattle.report.proofs.Lines.{number_after}
use Rattle.report.proofs.fields.print_number.Goals as goal

pub print_decimal-i-requires : goal.print_decimal-i-requires
print_decimal-i-requires c = omega (arith, ten c.args.n c.ranges.n)

pub bounds-out-i : goal.bounds-out-i
bounds-out-i c = omega (arith, c.print_decimal-i.ensures.answer, c.print_decimal-i.auto.out, ten c.args.n c.ranges.n)

pub overflow_add-result : goal.overflow_add-result
overflow_add-result c = omega (arith, c.print_decimal-i.ensures.answer, ten c.args.n c.ranges.n)

pub returns : goal.returns
returns c = number_after _ c.ranges.n c.print_decimal-i.ensures
