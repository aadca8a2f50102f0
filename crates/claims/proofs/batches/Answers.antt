-- `batches` meets its contract: the theorems, cited. Assumes nothing.
use Rattle.batch_statements.proofs.Refused.{batch_refused}
use Rattle.claims.proofs.FewListed.{lists_few}
use Rattle.claims.proofs.batches.Goals as goal

pub returns : goal.returns
returns c = (batch_refused, lists_few)
