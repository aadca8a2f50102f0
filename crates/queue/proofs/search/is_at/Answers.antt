-- `queue::search::is_at` meets its contract. Assumes nothing.
use Rattle.laws.proofs.Prelude.{◌∙◌, arith, le-ltb}
use Rattle.queue_statements.proofs.Ranks.{holds_is, holds_not}
use Rattle.queue.proofs.search.is_at.Goals as goal

pub returns-then-place-n : goal.returns-then-place-n
returns-then-place-n c = holds_is _ _ _ _ c.requires (omega arith)

pub returns-else-place-n : goal.returns-else-place-n
returns-else-place-n c = le-ltb _ _ c.if-place-n.false ∙ holds_not _ _ _ _ c.requires (omega arith)
