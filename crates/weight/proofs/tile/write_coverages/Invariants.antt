use Rattle.cover_statements.specs.InnerWeighed.{coverage_in}
use Rattle.cover_statements.proofs.Mapped.{Mapping}
use Rattle.weight.proofs.tile.write_coverages.Given as goal

abbrev pub invariant-loop-k : goal.invariant-loop-k
invariant-loop-k l = Mapping coverage_in l.weights l.initial.plane l.k l.plane
