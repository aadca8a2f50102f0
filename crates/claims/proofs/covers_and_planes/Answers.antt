-- `covers_and_planes` meets its contract: the theorems, cited. Assumes nothing.
use Rattle.claims.proofs.Weights.{weights_hold}
use Rattle.claims.proofs.Planes.{planes_hold}
use Rattle.claims.proofs.WholeRow.{from_whole_row}
use Rattle.claims.proofs.covers_and_planes.Goals as goal

pub returns : goal.returns
returns c = (weights_hold, planes_hold, from_whole_row)
