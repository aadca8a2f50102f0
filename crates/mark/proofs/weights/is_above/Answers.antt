-- `mark::weights::is_above` meets its contract. Assumes nothing.
use Rattle.laws.proofs.Prelude.{to_z-of_z}
use Rattle.mark.proofs.Rests.{rest_above}
use Rattle.mark.proofs.weights.is_above.Goals as goal

pub returns : goal.returns
returns c = rw (c.rest_of_area.ensures, to_z-of_z c.ranges.d) (rest_above c.args.d)
