-- `print_decimal` calls itself: the measure is the number.
use Rattle.decimal.proofs.+print_decimal.Given as goal

abbrev pub decreases-print_decimal : goal.decreases-print_decimal
decreases-print_decimal l = l.n
