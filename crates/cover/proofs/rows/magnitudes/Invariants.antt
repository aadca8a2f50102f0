use Rattle.laws.proofs.Prelude.{length}
use Rattle.cover_statements.proofs.Loads.{Measuring}
use Rattle.cover.proofs.rows.magnitudes.Given as goal

abbrev pub invariant-loop-y : goal.invariant-loop-y
invariant-loop-y l = Measuring l.covers (length l.covers) l.y l.loads
