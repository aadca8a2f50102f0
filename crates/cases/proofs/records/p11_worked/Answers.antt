-- P11 by the work on its tile, from the contracts. Assumes nothing.
use Rattle.laws.proofs.Prelude.{rules}
use Rattle.cases.proofs.records.p11_worked.Goals as goal

pub returns : goal.returns
returns c =
    let w = c.work_p11-handed.ensures in
    rw (w.0, w.1, w.2)
