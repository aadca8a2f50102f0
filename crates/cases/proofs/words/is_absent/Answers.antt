-- `words::is_absent` meets its contract. Assumes nothing.
use Rattle.laws.proofs.Prelude.{rules}
use Rattle.cases.proofs.words.is_absent.Goals as goal

pub returns-in-Err : goal.returns-in-Err
returns-in-Err c = rw c.in-Err.is
