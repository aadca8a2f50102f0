-- A cover that one row keeps from being full, from the contracts. Assumes nothing.
use Rattle.laws.proofs.Prelude.{◌∙◌, rules}
use Rattle.cases.proofs.Table.{edges}
use Rattle.cases.proofs.covers.p6_row_of_15.Goals as goal

pub returns : goal.returns
returns c = rw (c.is_full.ensures ∙ edges.row_of_15)
