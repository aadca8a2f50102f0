-- `queue::incoming` meets its contract. Assumes nothing.
use Rattle.laws.proofs.Prelude.{sym, ◌∙◌, arith, take, length-take-le}
use Rattle.queue_statements.proofs.Ranks.{Held, held}
use Rattle.queue_statements.proofs.Queues.{held_lent, missed_lent}
use Rattle.queue.proofs.incoming.Goals as goal
use Rattle.queue.proofs.incoming.Goals.{Then-is_at}

-- the id stands at its rank
found : (c : Then-is_at) → Held c.args.id c.rank-place.result (take c.args.n c.args.ids.now)
found c = held (sym c.is_at.ensures ∙ c.if-is_at.true)

pub read_cover-requires : goal.read_cover-requires
read_cover-requires c =
    omega (arith, found c, length-take-le c.args.n c.args.ids.now c.requires.ids_long)

pub returns-then-is_at : goal.returns-then-is_at
returns-then-is_at c = c.read_cover.ensures ∙ held_lent c.requires _ (found (goal.at.returns-then-is_at c).Then-is_at)

pub returns-else-is_at : goal.returns-else-is_at
returns-else-is_at c = missed_lent c.requires _ c.rank-place.ensures (sym c.is_at.ensures ∙ c.if-is_at.false)
