-- `stated::is_proved` meets its contract: the tables, cited. Assumes nothing.
use Rattle.laws.proofs.Prelude.{refl}
use Rattle.cases.proofs.Table.{cases, edges}
use Rattle.cases.proofs.stated.is_proved.Goals as goal

pub returns : goal.returns
returns c = (refl, cases, edges)
