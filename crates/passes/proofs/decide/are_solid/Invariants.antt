use Rattle.layer_table.specs.Table.{table_of}
use Rattle.pass_statements.specs.Entry.{entries_of}
use Rattle.pass_statements.specs.Item.{items_of}
use Rattle.pass_statements.proofs.Mixing.{Mixing}
use Rattle.passes.proofs.decide.are_solid.Given as goal

abbrev pub invariant-loop-i : goal.invariant-loop-i
invariant-loop-i l =
    Mixing (items_of (table_of l.layers l.colors l.count) (entries_of l.n l.ids l.covers l.flags)) l.unmasked l.initial.i l.below l.ok l.left l.i
