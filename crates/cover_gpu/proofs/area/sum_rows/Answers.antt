-- `area::sum_rows` meets its contract. Assumes nothing.
use Rattle.std.specs.Prelude.{◌≡◌}
use Rattle.laws.proofs.Prelude.{arith}
use Rattle.cover_statements.proofs.Rows.{rows_start, rows_end}
use Rattle.cover_gpu.proofs.area.sum_rows.Goals as goal

pub loop-y-init : goal.loop-y-init
loop-y-init c = λ part a. rows_start (λ w. omega arith) a

pub returns : goal.returns
returns c =
    let e : c.loop-y.y ≡ 4 = omega arith in
    record { areas_are = λ part a. rows_end (rw e at (c.loop-y.invariant part a)) }
