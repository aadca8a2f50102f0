-- `weight::column::repeat_column` meets its contract. Assumes nothing.
use Rattle.laws.proofs.Prelude.{arith}
use Rattle.cover_statements.proofs.PlaneRows.{rows_next, rows_end}
use Rattle.weight.proofs.column.repeat_column.Goals as goal

pub loop-y-preserved : goal.loop-y-preserved
loop-y-preserved c =
    rows_next c.loop-y.invariant c.loop-y-test.true c.fill_row.ensures

pub returns : goal.returns
returns c = rows_end c.loop-y.invariant (omega arith)
