-- `start` meets its contract. Assumes nothing.
use Rattle.std.specs.Prelude.{None}
use Rattle.laws.proofs.Prelude.{refl}
use Rattle.listed_painting.proofs.Walks.{begun}
use Rattle.listed_painting.proofs.start.Goals as goal

pub returns : goal.returns
returns c = record { starts = λ table n ids covers part. record { holds = begun table n ids covers part None 0; past = refl; no_clip = refl } }
