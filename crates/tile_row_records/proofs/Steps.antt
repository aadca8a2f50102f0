-- The claims of specs/Steps: records that hold the caller's carries are memory that holds the same carries. Assumes nothing.
use Rattle.std.specs.Prelude.{◌≡◌, ◌&&◌, ◌≤◌}
use Rattle.laws.proofs.Prelude.{sym, ap, ◌∙◌, false, List, ℕ, arith, leb, length, take}
use Rattle.styling.specs.Ascending.{strictly_ascends}
use Rattle.queue_statements.specs.Queue.{is_queue, ids_in}
use Rattle.queue_statements.proofs.Judging.{room}
use Rattle.queue_statements.proofs.Queues.{ids_queue}
use Rattle.queue_records.specs.Records.{record_ids, record_covers}
use Rattle.queue_records.specs.declared.CarryRecord.{CarryRecord}
use Rattle.queue_records.proofs.Reading.{ids_length}
use Rattle.row_statements.specs.Lent.{Columns, carries_in, is_queue_short}
use Rattle.row_statements.specs.Run.{SameCarries, Step}
use Rattle.tile_row_columns.specs.Lent.{columns_for}
use Rattle.row_statements.proofs.Run.{accepted, is_open, held_first_lem, HoldsAfter, run_holds}
use Rattle.tile_row_records.specs.Steps.{HoldsCarries, AfterCalls, WorkStep, PaintStep}
use Rattle.tile_row_columns.proofs.SameQueue.{records_long, records_read}

pub same_carries : {n : ℕ} {k : Columns} (q : List CarryRecord) → is_queue_short k ≡ false → HoldsCarries n k q → SameCarries n k (columns_for q)
unfolding is_queue
same_carries {n} {k} q short holds =
    let reads : carries_in n (columns_for q) ≡ carries_in n k = records_read q n holds.few holds.long ∙ holds.reads in
    let here : n ≤ length (record_ids q) = omega (arith, ids_length q, holds.few, holds.long) in
    let there : n ≤ length k.ids = omega (arith, (room {ids = k.ids} {covers = k.covers} short).ids_long, holds.few) in
    let ids : take n (record_ids q) ≡ take n k.ids = sym (ids_queue n (record_ids q) (record_covers q) here) ∙ ap ids_in reads ∙ ids_queue n k.ids k.covers there in
    record { reads = reads; room = records_long q holds.long ∙ sym short; order = ap (λ (l : List ℕ). leb n 256 && strictly_ascends l) ids }

-- what the caller holds after calls is long enough for 256 carries
held_after : AfterCalls HoldsAfter
held_after c lent back s es h w g run =
    let a = accepted c lent back s g in
    run_holds (is_open c lent back s w a) (held_first_lem c lent back s w a) run

pub work_step : WorkStep
work_step c lent back s es h w g run choice q r left records gives =
    let holds = (held_after c lent back s es h w g run).holds in
    Step.work (same_carries q holds.queue.long records) gives

pub paint_step : PaintStep
paint_step c lent back s es h w g run choice q r left records gives =
    let holds = (held_after c lent back s es h w g run).holds in
    Step.paint (same_carries q holds.taken_long records) gives
