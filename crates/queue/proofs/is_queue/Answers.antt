-- `queue::is_queue` meets its contract. What holds while the ids are passed is `Judging`. Assumes nothing.
use Rattle.std.specs.Prelude.{◌<◌}
use Rattle.laws.proofs.Prelude.{arith, length-take, get_or-take}
use Rattle.queue_statements.proofs.Judging.{next, end, many}
use Rattle.queue.proofs.is_queue.Goals as goal

pub returns-then-n-gt-LIMIT : goal.returns-then-n-gt-LIMIT
returns-then-n-gt-LIMIT c = many _ _ (omega arith)

pub loop-id-preserved : goal.loop-id-preserved
loop-id-preserved c =
    let here : c.loop-id.id-index < c.min.result = omega (arith, length-take c.min.result c.args.ids.now) in
    rw get_or-take (next c.loop-id.invariant (omega arith))

pub returns : goal.returns
returns c = end c.loop-id.invariant (omega arith) (omega (arith, length-take c.min.result c.args.ids.now))
