-- `judging::do_ascend` meets its contract. What holds while the ids are passed is `Judging` of a queue. Assumes nothing.
use Rattle.std.specs.Prelude.{◌<◌}
use Rattle.laws.proofs.Prelude.{arith, length-take, get_or-take}
use Rattle.queue_statements.proofs.Judging.{next}
use Rattle.listing_statements.proofs.Decidings.{ascended}
use Rattle.tile_deciding.proofs.judging.do_ascend.Goals as goal

pub loop-id-preserved : goal.loop-id-preserved
loop-id-preserved c =
    let l = c.loop-id in
    let ids = c.args.ids.now in
    let here : l.id-index < c.min.result = omega (arith, c.loop-id-test.true, length-take c.min.result ids) in
    rw (c.from-id.ensures, get_or-take c.min.result ids l.id-index 0 here) (next l.invariant (omega (arith, here, c.min.ensures)))

pub returns : goal.returns
returns c =
    ascended c.loop-id.invariant (omega (arith, c.loop-id-test.false, c.min.ensures, length-take c.min.result c.args.ids.now))
