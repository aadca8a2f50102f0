-- `shown_as_painted` meets its contract: the theorems, cited. Assumes nothing.
use Rattle.kept_rows.proofs.Painted.{layers_painted}
use Rattle.kept_rows.proofs.Read.{paintings_read}
use Rattle.claims.proofs.shown_as_painted.Goals as goal

pub returns : goal.returns
returns c = (layers_painted, paintings_read)
