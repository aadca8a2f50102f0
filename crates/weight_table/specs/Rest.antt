-- The EvenOdd weight of a remainder by 1,024, by the formula; and the weights of all remainders.
use Rattle.std.specs.Prelude.{◌-◌}
use Rattle.laws.specs.Prelude.{List, ℕ, nat_abs, sub_ℕ, tabulate}

-- the EvenOdd weight of a remainder by 1,024: 512 - |rest - 512|
abbrev pub rest_weight : ℕ → ℕ
rest_weight rest = 512 - nat_abs (sub_ℕ rest 512)

-- the weights of the remainders 0 to 1,023
unfoldable pub curve : List ℕ
curve = tabulate 1024 rest_weight
