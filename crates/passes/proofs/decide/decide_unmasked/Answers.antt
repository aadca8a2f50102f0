-- `passes::decide::decide_unmasked` meets its contract. Assumes nothing.
use Rattle.layer_table.specs.Table.{table_of}
use Rattle.pass_statements.specs.Covered.{covered_of}
use Rattle.pass_statements.specs.Entry.{entries_of}
use Rattle.pass_statements.specs.Item.{items_of}
use Rattle.pass_statements.proofs.Deciding.{decided}
use Rattle.passes.proofs.decide.decide_unmasked.Goals as goal

pub returns : goal.returns
returns c =
    let a = c.args in
    let items = items_of (table_of a.layers.now a.colors.now a.count) (entries_of a.n a.ids.now a.covers.now a.flags.now) in
    decided {whole = covered_of items a.unmasked.now a.unclipped.now a.removed} a.clear items a.unmasked.now
    c.skip_fully_covered_layers_pass-found.ensures
    c.bottom_of-bottom.ensures
    c.mix-decision.ensures
