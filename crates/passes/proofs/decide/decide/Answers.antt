-- `passes::decide::decide` meets its contract. Assumes nothing.
use Rattle.layer_table.specs.Table.{table_of}
use Rattle.pass_statements.specs.Entry.{entries_of}
use Rattle.pass_statements.specs.Item.{items_of}
use Rattle.pass_statements.proofs.Deciding.{decided_kept, decided_all}
use Rattle.pass_statements.proofs.Listing.{length_items}
use Rattle.passes.proofs.decide.decide.Goals as goal

pub returns-then-is_kept : goal.returns-then-is_kept
returns-then-is_kept c =
    let a = c.args in
    decided_kept (items_of (table_of a.layers.now a.colors.now a.count) (entries_of a.n a.ids.now a.covers.now a.flags.now)) a.previous a.clear a.clear_unchanged (length_items _ _ _ _ _)
    c.is_kept.ensures
    c.if-is_kept.true
    c.fill.ensures

pub returns : goal.returns
returns c =
    let a = c.args in
    decided_all (items_of (table_of a.layers.now a.colors.now a.count) (entries_of a.n a.ids.now a.covers.now a.flags.now)) a.previous a.clear a.clear_unchanged (length_items _ _ _ _ _)
    c.is_kept.ensures
    c.if-is_kept.false
    c.were_removed-removed.ensures
    c.run_passes.ensures
