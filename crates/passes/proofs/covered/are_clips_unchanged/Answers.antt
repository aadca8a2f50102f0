-- `passes::covered::are_clips_unchanged` meets its contract. Assumes nothing.
use Rattle.laws.proofs.Prelude.{refl, ap, ◌∙◌}
use Rattle.layer_table.specs.Table.{table_of}
use Rattle.cover_statements.proofs.Testing.{test_start, test_next}
use Rattle.pass_statements.specs.Covered.{is_clip_unchanged}
use Rattle.pass_statements.proofs.Listing.{length_items, item_read}
use Rattle.passes.proofs.covered.are_clips_unchanged.Goals as goal

pub loop-i-init : goal.loop-i-init
loop-i-init c = test_start (length_items _ _ _ _ _)

pub loop-i-preserved : goal.loop-i-preserved
loop-i-preserved c =
    let a = c.args in
    test_next _ c.loop-i.invariant c.loop-i-test.true
    (c.is_clip_unchanged-ok.ensures
    ∙ ap is_clip_unchanged (item_read (table_of a.layers.now a.colors.now a.count) a.n a.ids.now a.covers.now a.flags.now c.loop-i.i c.loop-i-test.true refl))
