-- `cover_gpu::painting::write_plane` meets its contract. Assumes nothing.
use Rattle.laws.proofs.Prelude.{ap, ◌∙◌, List, arith, Float}
use Rattle.cover_statements.specs.InnerWeighed.{put_row}
use Rattle.cover_statements.proofs.PlaneRows.{rows_next, rows_end}
use Rattle.weight.proofs.WeightRows.{row_coverages}
use Rattle.cover_gpu.proofs.painting.write_plane.Goals as goal

pub loop-y-preserved : goal.loop-y-preserved
loop-y-preserved c =
    rows_next c.loop-y.invariant c.loop-y-test.true
    (c.write_row.ensures
    ∙ ap (λ (row : List Float). put_row c.loop-y.y row c.loop-y.plane) (row_coverages c.requires.0 c.requires.1 c.loop-y-test.true c.row_of-row.ensures))

pub returns : goal.returns
returns c = rows_end c.loop-y.invariant (omega arith)
