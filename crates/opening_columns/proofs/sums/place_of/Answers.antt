-- `opening_columns::sums::place_of` meets its contract. Assumes nothing.
use Rattle.std.specs.Prelude.{◌≤◌}
use Rattle.laws.proofs.Prelude.{arith, take, length-take-le}
use Rattle.queue_statements.specs.InnerSums.{key_in}
use Rattle.queue_statements.proofs.Ranks.{ranked}
use Rattle.opening_columns.proofs.sums.place_of.Goals as goal
use Rattle.opening_columns.proofs.sums.place_of.Goals.{After-rank_from}

-- a rank is within the ids
low : (c : After-rank_from) → c.rank_from.result ≤ 256
low c =
    omega (arith, c.rank_from.ensures, (ranked c.layer_id.result (take c.args.n c.args.ids.now)).within, length-take-le c.args.n c.args.ids.now c.requires.1)

pub overflow_mul-result : goal.overflow_mul-result
overflow_mul-result c = omega (arith, low c)

pub overflow_add-result : goal.overflow_add-result
overflow_add-result c = omega (arith, low (goal.at.overflow_add-result c).After-rank_from)

pub returns : goal.returns
unfolding key_in
returns c = rw (c.rank_from.ensures, c.local_y.ensures, c.layer_id.ensures)
