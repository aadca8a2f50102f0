use Rattle.layer_table.specs.Table.{table_of}
use Rattle.pass_statements.specs.Entry.{entries_of}
use Rattle.pass_statements.specs.Item.{items_of}
use Rattle.pass_statements.proofs.Covering.{Looking}
use Rattle.passes.proofs.covered.skip_fully_covered_layers_pass.Given as goal

abbrev pub invariant-loop-i : goal.invariant-loop-i
invariant-loop-i l =
    Looking (items_of (table_of l.layers l.colors l.count) (entries_of l.n l.ids l.covers l.flags)) l.unmasked l.unclipped l.n l.removed l.i l.found
