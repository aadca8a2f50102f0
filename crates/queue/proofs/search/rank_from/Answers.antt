-- `queue::search::rank_from` meets its contract. Assumes nothing.
use Rattle.std.specs.Prelude.{◌+◌}
use Rattle.laws.proofs.Prelude.{arith}
use Rattle.queue_statements.proofs.Ranks.{begin, upper, lower, end, hit}
use Rattle.queue.proofs.search.rank_from.Goals as goal

pub returns-then-there-id : goal.returns-then-there-id
returns-then-there-id c = let pre = c.requires in hit (begin _ pre.0 pre.1) (omega arith) (omega arith)

pub returns-then-next-n : goal.returns-then-next-n
returns-then-next-n c =
    let pre = c.requires in
    end (upper (begin _ pre.0 pre.1) (omega arith) (omega arith) (omega arith)) (omega arith)

pub returns-then-id-ids : goal.returns-then-id-ids
returns-then-id-ids c =
    end
    (lower (upper (begin _ c.requires.0 c.requires.1) (omega arith) (omega arith) (omega arith)) {middle = c.args.hint + 1} (omega arith) (omega arith) (omega arith))
    (omega arith)

pub returns : goal.returns
returns c = c.rank.ensures
