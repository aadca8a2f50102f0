use Rattle.std.specs.Prelude.{◌≤◌}
use Rattle.laws.proofs.Prelude.{eqb}
use Rattle.laws.proofs.Prelude.{length}
use Rattle.cover_statements.specs.Cover.{empty_at}
use Rattle.cover_statements.proofs.Testing.{Testing}
use Rattle.cover.proofs.rows.are_empty.Given as goal

-- how many of the first y rows are not empty, and that none is exactly where all of them are
abbrev pub invariant-loop-cover : goal.invariant-loop-cover
invariant-loop-cover l = (l.filled ≤ l.cover-index) × Testing (empty_at l.rule) l.covers (length l.covers) (eqb l.filled 0) l.cover-index
