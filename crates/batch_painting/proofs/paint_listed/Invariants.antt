use Rattle.std.specs.Prelude.{◌+◌}
use Rattle.layer_table.specs.Table.{table_of}
use Rattle.batch_painting.proofs.Walking.{Walked}
use Rattle.batch_painting.proofs.paint_listed.Given as goal

abbrev pub invariant-loop-unmasked : goal.invariant-loop-unmasked
invariant-loop-unmasked l =
    Walked (table_of l.layers l.colors l.count) l.n l.ids l.covers l.part l.list_unmasked l.skipped l.listed l.used l.initial.planes l.initial.painted l.at l.planes l.painted
    (l.skipped + l.unmasked-index)
