-- `passes::clips::skip_trivial_clips_pass` meets its contract. Assumes nothing.
use Rattle.layer_table.specs.Table.{table_of}
use Rattle.pass_statements.proofs.Clipping.{pass_next, pass_end, passed}
use Rattle.pass_statements.proofs.Listing.{length_items, drop_items}
use Rattle.passes.proofs.clips.skip_trivial_clips_pass.Goals as goal

pub loop-i-preserved : goal.loop-i-preserved
loop-i-preserved c =
    let a = c.args in
    let table = table_of a.layers.now a.colors.now a.count in
    pass_next c.loop-i.invariant c.loop-i-test.true
    (drop_items table a.n a.ids.now a.covers.now a.flags.now c.loop-i.i c.loop-i-test.true)
    c.item_at-x.ensures
    c.clip_step-s.ensures
    c.mark.ensures

pub returns : goal.returns
returns c =
    passed (length_items _ _ _ _ _) c.fill.ensures c.fill-2.ensures
    (pass_end c.loop-i.invariant (length_items _ _ _ _ _) c.loop-i-test.false c.mask_last.ensures)
