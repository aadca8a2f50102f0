-- `passes::covered::is_clip_unchanged` meets its contract. Assumes nothing.
use Rattle.laws.proofs.Prelude.{ap, ◌∙◌}
use Rattle.layer_table.specs.Table.{table_of}
use Rattle.pass_statements.specs.declared.item.Item.{Item}
use Rattle.pass_statements.specs.Clips.{is_clip}
use Rattle.pass_statements.specs.Entry.{entry_at}
use Rattle.pass_statements.proofs.Repainting.{unmarked, marked_draws}
use Rattle.passes.proofs.covered.is_clip_unchanged.Goals as goal

pub returns-then-flags-at : goal.returns-then-flags-at
returns-then-flags-at c =
    let a = c.args in
    marked_draws (table_of a.layers.now a.colors.now a.count) (entry_at a.ids.now a.covers.now a.flags.now a.i.0)
    c.if-flags-at.true
    (c.is_clip.ensures ∙ ap (λ (x : Item). is_clip x.func) c.item_at-x.ensures)

pub returns-else-flags-at : goal.returns-else-flags-at
returns-else-flags-at c =
    let a = c.args in
    unmarked (table_of a.layers.now a.colors.now a.count) (entry_at a.ids.now a.covers.now a.flags.now a.i.0) c.if-flags-at.false
