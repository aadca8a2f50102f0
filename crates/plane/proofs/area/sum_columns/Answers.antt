-- `plane::area::sum_columns` meets its contract. Assumes nothing.
use Rattle.laws.proofs.Prelude.{refl, arith}
use Rattle.cover_statements.proofs.Carries.{light}
use Rattle.cover_statements.proofs.Columns.{columns_start, columns_ready, columns_next, columns_end}
use Rattle.plane.proofs.area.sum_columns.Goals as goal

pub loop-column-init : goal.loop-column-init
loop-column-init c part a = columns_start (λ w. omega arith) a

pub compute_doubled_areas-next-requires : goal.compute_doubled_areas-next-requires
compute_doubled_areas-next-requires c =
    let s = c.requires in
    columns_ready (λ w. omega arith) (c.loop-column.invariant s.part s.cells) c.loop-column-test.true refl (light s.light)

pub loop-column-preserved : goal.loop-column-preserved
loop-column-preserved c part a =
    columns_next (λ w. omega arith) (c.loop-column.invariant part a) c.loop-column-test.true c.compute_doubled_areas-next.ensures

pub returns : goal.returns
returns c = record { areas_are = λ part a. columns_end (c.loop-column.invariant part a) (omega arith) }
