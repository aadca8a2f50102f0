-- A list that passes the test of every entry is the curve: the rule of the table, at each entry. Assumes nothing.
use Rattle.std.specs.Prelude.{◌≡◌, ◌<◌}
use Rattle.laws.proofs.Prelude.{Bool, List, ℕ, arith, T, eqb, length, get_or, is_tabulate, get_d_tabulate}
use lib.Dec.{eqb→eq}
use Rattle.laws.proofs.Table.{every, at}
use Rattle.weight_table.specs.Rest.{rest_weight, curve}

abbrev pub right : ℕ → ℕ → Bool
right k x = eqb x (rest_weight k)

-- what a computed test of the whole list says of an entry
pub rule : (entries : List ℕ) → T (every right 0 entries) → (k : ℕ) → k < length entries → get_or entries k 0 ≡ rest_weight k
rule entries test k h = eqb→eq (get_or entries k 0) (rest_weight k) (at right entries test k h)

pub curve_at : (k : ℕ) → k < 1024 → get_or curve k 0 ≡ rest_weight k
unfolding curve
curve_at k h = get_d_tabulate 1024 rest_weight 0 k h

pub is_curve : (entries : List ℕ) → length entries ≡ 1024 → T (every right 0 entries) → entries ≡ curve
unfolding curve
is_curve entries e test = is_tabulate 1024 rest_weight 0 entries e (λ k h. rule entries test k (omega arith))
