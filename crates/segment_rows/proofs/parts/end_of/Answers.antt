-- `parts::end_of` meets its contract. Assumes nothing.
use Rattle.laws.proofs.Prelude.{add-one, arith}
use Rattle.segment_rows.proofs.parts.end_of.Goals as goal

pub overflow_add-result : goal.overflow_add-result
overflow_add-result c = omega (arith, rw c.in-Ok.is at c.requires)

pub returns-in-Ok : goal.returns-in-Ok
returns-in-Ok c = rw c.in-Ok.is (add-one c.in-Ok.i)
