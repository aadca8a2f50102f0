use Rattle.std.specs.Prelude.{◌≡◌}
use Rattle.laws.proofs.Prelude.{take, over}
use Rattle.queue_records.specs.Records.{record_ids, record_covers}
use Rattle.queue_records.proofs.read_queue.Given as goal

-- the first i records lie over the front of the two columns
abbrev pub invariant-loop-i : goal.invariant-loop-i
invariant-loop-i l =
    (l.ids ≡ over (record_ids (take l.i l.queue)) l.fn.ids) × (l.covers ≡ over (record_covers (take l.i l.queue)) l.fn.covers)
