use Rattle.std.specs.Prelude.{◌+◌, ◌-◌}
use Rattle.laws.proofs.Prelude.{length}
use Rattle.layer_table.specs.Table.{table_of}
use Rattle.painter.proofs.Freeing.{Freeing}
use Rattle.painter.proofs.freed.is_freed.Given as goal

abbrev pub invariant-loop-i : goal.invariant-loop-i
invariant-loop-i l = Freeing l.n l.ids l.covers l.part (table_of l.layers l.colors l.count) l.id l.freed l.i l.j

abbrev pub decreases-loop-i : goal.decreases-loop-i
decreases-loop-i l = l.n + length l.part - (l.i + l.j)
