-- `empty_set` meets its contract. Assumes nothing.
use Rattle.laws.proofs.Prelude.{ap, List, ℤ}
use Rattle.segment_set_statements.specs.Set.{nothing}
use Rattle.segment_set_statements.proofs.Changes.{with}
use Rattle.segment_set.proofs.empty_set.Goals as goal

pub returns : goal.returns
returns c = ap (λ (covers : List ℤ). with nothing covers nothing.loads 0) c.default-carry.ensures
