use Rattle.laws.proofs.Prelude.{length}
use Rattle.cover_statements.specs.Cover.{full_at}
use Rattle.cover_statements.proofs.Testing.{Testing}
use Rattle.cover.proofs.rows.are_full.Given as goal

abbrev pub invariant-loop-cover : goal.invariant-loop-cover
invariant-loop-cover l = Testing (full_at l.rule) l.covers (length l.covers) l.ok l.cover-index
