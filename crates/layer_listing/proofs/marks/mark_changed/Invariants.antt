use Rattle.layer_table.specs.Table.{table_of}
use Rattle.layer_listing.proofs.Marking.{Marking}
use Rattle.layer_listing.proofs.marks.mark_changed.Given as goal

abbrev pub invariant-loop-i : goal.invariant-loop-i
invariant-loop-i l = Marking (table_of l.layers l.colors l.count) l.n l.ids l.initial.flags l.flags l.i
