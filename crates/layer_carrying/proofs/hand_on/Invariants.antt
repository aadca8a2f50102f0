use Rattle.layer_table.specs.Table.{table_of}
use Rattle.queue_statements.specs.Queue.{queue_of}
use Rattle.layer_carrying.proofs.Handing.{Handing}
use Rattle.layer_carrying.proofs.hand_on.Given as goal

abbrev pub invariant-loop-i : goal.invariant-loop-i
invariant-loop-i l =
    Handing (table_of l.layers l.colors l.count) (queue_of l.n l.ids l.sums) l.initial.next_ids l.initial.next_covers l.next_ids l.next_covers l.m l.i
