-- `decide_tile` meets its contract. Assumes nothing.
use Rattle.laws.proofs.Prelude.{arith}
use Rattle.layer_table.specs.Table.{table_of}
use Rattle.pass_statements.specs.Entry.{entries_of}
use Rattle.layer_workbench.proofs.Decided.{decided}
use Rattle.layer_workbench.proofs.decide_tile.Goals as goal

pub overflow_cast-n : goal.overflow_cast-n
overflow_cast-n c = omega (arith, c.requires.0)

pub decide-decided-requires : goal.decide-decided-requires
decide-decided-requires c = c.requires

pub returns : goal.returns
returns c =
    let a = c.args in
    decided (table_of a.layers.now a.colors.now a.count) (entries_of a.n a.ids.now a.covers.now a.flags.now) a.kept a.clear a.previous a.n a.unmasked.now _
    c.update_layer_count-counted.ensures c.is_clear_unchanged.ensures c.decide-decided.ensures c.kept_by-after.ensures
