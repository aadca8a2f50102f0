-- `cover::rows::are_empty` meets its contract. Assumes nothing.
use Rattle.laws.proofs.Prelude.{arith}
use Rattle.cover_statements.specs.Cover.{is_empty}
use Rattle.cover_statements.proofs.Testing.{test_end}
use Rattle.cover.proofs.rows.are_empty.Goals as goal

pub returns : goal.returns
unfolding is_empty
returns c = test_end c.loop-cover.invariant.1 (omega arith)
