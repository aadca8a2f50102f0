-- `records_of` meets its contract. Assumes nothing.
use Rattle.laws.proofs.Prelude.{refl, arith}
use Rattle.records_from_columns.proofs.Making.{make_start, make_next}
use Rattle.records_from_columns.proofs.records_of.Goals as goal

pub loop-i-init : goal.loop-i-init
loop-i-init c = make_start _ refl

pub loop-i-preserved : goal.loop-i-preserved
loop-i-preserved c =
    let good = c.well_formed in
    make_next c.record_from.result good.0.1.0.1 good.1.0.1.0.1 c.loop-i.invariant (omega arith) c.record_from.ensures
