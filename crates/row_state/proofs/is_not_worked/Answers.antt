-- `is_not_worked` meets its contract. Assumes nothing.
use Rattle.laws.proofs.Prelude.{arith, rules, w32, to_z-of_z, within}
use Rattle.row_state.proofs.is_not_worked.Goals as goal

pub overflow_add-result : goal.overflow_add-result
overflow_add-result c =
    let e = rw (to_z-of_z c.ranges.tile) at c.natural.ensures in
    omega (arith, e, within w32 c.args.tile c.ranges.tile)

pub returns : goal.returns
returns c = rw (c.natural.ensures, to_z-of_z c.ranges.tile)
