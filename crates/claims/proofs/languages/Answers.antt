-- `languages` meets its contract: the theorems, cited. Assumes nothing.
use Rattle.two_rows.proofs.Apart.{layers_apart}
use Rattle.two_rows.proofs.Unmoved.{unmoved}
use Rattle.two_rows.proofs.Example.{differing}
use Rattle.claims.proofs.languages.Goals as goal

pub returns : goal.returns
returns c = (layers_apart, unmoved, differing)
