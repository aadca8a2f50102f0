-- `queue_records::read_queue` meets its contract: where its loop stands is a `Reading`. Assumes nothing.
use Rattle.std.specs.Prelude.{◌≡◌}
use Rattle.laws.proofs.Prelude.{arith, length}
use Rattle.queue_records.proofs.Reading.{Reading, Fits, readable_fits, no_ids, no_covers, more_ids, more_covers}
use Rattle.queue_records.proofs.read_queue.Goals as goal

pub loop-i-init : goal.loop-i-init
loop-i-init c =
    let a = c.args in
    (no_ids a.queue.now a.ids.now a.covers.now c.count_readable-n.result, no_covers a.queue.now a.ids.now a.covers.now c.count_readable-n.result)

pub loop-i-preserved : goal.loop-i-preserved
loop-i-preserved c =
    let wide : length c.record_at.result.covers ≡ 16 = omega (arith, c.record_at.type_inv) in
    let a = c.args in
    let n = c.count_readable-n.result in
    let fits : Fits (length a.queue.now) (length a.ids.now) (length a.covers.now) n = readable_fits a.count _ _ _ n c.count_readable-n.ensures in
    let l = c.loop-i in
    let s : Reading a.queue.now a.ids.now a.covers.now n = record {
      i = l.i;
      ids = l.ids;
      covers = l.covers;
      within = omega arith;
      ids_are = l.invariant.0;
      covers_are = l.invariant.1;
      ids_same = l.auto.ids;
      covers_same = l.auto.covers;
    } in
    let wrote = c.put_record.ensures in (
      more_ids _ _ _ _ fits s c.loop-i-test.true c.record_at.result c.record_at.ensures wide _ _ wrote,
      more_covers _ _ _ _ fits s c.loop-i-test.true c.record_at.result c.record_at.ensures wide _ _ wrote,
    )
