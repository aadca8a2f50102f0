-- `cover::rows::are_full` meets its contract. Assumes nothing.
use Rattle.laws.proofs.Prelude.{arith}
use Rattle.cover_statements.specs.Cover.{is_full}
use Rattle.cover_statements.proofs.Testing.{test_end}
use Rattle.cover.proofs.rows.are_full.Goals as goal

pub returns : goal.returns
unfolding is_full
returns c = test_end c.loop-cover.invariant (omega arith)
