-- `passes::decide::mix` meets its contract. Assumes nothing.
use Rattle.layer_table.specs.Table.{table_of}
use Rattle.pass_statements.specs.Entry.{entries_of}
use Rattle.pass_statements.specs.Item.{items_of}
use Rattle.pass_statements.specs.Decide.{shown_of}
use Rattle.pass_statements.proofs.Deciding.{mixed_settled, mixed_solid, mixed_paint}
use Rattle.passes.proofs.decide.mix.Goals as goal

pub returns-in-Settled : goal.returns-in-Settled
returns-in-Settled c = mixed_settled _ c.in-Settled.is

pub returns-then-are_solid : goal.returns-then-are_solid
returns-then-are_solid c =
    let a = c.args in
    mixed_solid (shown_of a.skipped.0 (items_of (table_of a.layers.now a.colors.now a.count) (entries_of a.n a.ids.now a.covers.now a.flags.now)) a.unmasked.now)
    c.in-Under.is
    c.are_solid.ensures
    c.if-are_solid.true

pub returns-else-are_solid : goal.returns-else-are_solid
returns-else-are_solid c =
    let a = c.args in
    mixed_paint (shown_of a.skipped.0 (items_of (table_of a.layers.now a.colors.now a.count) (entries_of a.n a.ids.now a.covers.now a.flags.now)) a.unmasked.now)
    c.in-Under.is
    c.are_solid.ensures
    c.if-are_solid.false
