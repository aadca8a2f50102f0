-- `print_signed` meets its contract: the laws are those of `SignedPrint`.
-- Assumes nothing.
use Rattle.laws.proofs.Prelude.{arith, length-set, to_z-of_z}
use Rattle.decimal.proofs.Print.{ten}
use Rattle.decimal.proofs.SignedPrint.{print_below, print_above}
use Rattle.decimal.proofs.print_signed.Goals as goal

pub print_decimal-requires : goal.print_decimal-requires
print_decimal-requires c = simp length-set (omega (arith, ten c.unsigned_abs-size.result (omega arith)))

pub print_decimal-requires-2 : goal.print_decimal-requires-2
print_decimal-requires-2 c = omega (arith, ten c.unsigned_abs-size.result (omega arith))

pub returns-then-v-lt0 : goal.returns-then-v-lt0
returns-then-v-lt0 c =
    print_below c.args.v c.ranges.v (rw (to_z-of_z c.ranges.v) at c.unsigned_abs-size.ensures.value) (omega arith) c.if-v-lt0.true
    c.print_decimal.ensures

pub returns : goal.returns
returns c =
    print_above c.args.v c.ranges.v (rw (to_z-of_z c.ranges.v) at c.unsigned_abs-size.ensures.value) (omega arith) c.if-v-lt0.false
    c.print_decimal-2.ensures
