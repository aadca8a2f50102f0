-- `tile_unchanged::are_unchanged` meets its contract. Assumes nothing.
use Rattle.laws.proofs.Prelude.{ap}
use Rattle.layer_table.specs.Table.{table_of}
use Rattle.cover_statements.proofs.Testing.{test_start, test_next}
use Rattle.pass_statements.proofs.Listing.{length_items, item_read}
use Rattle.tile_unchanged.proofs.are_unchanged.Invariants.{isUnchanged}
use Rattle.tile_unchanged.proofs.are_unchanged.Goals as goal

pub loop-i-init : goal.loop-i-init
loop-i-init c = test_start (length_items _ _ _ _ _)

pub loop-i-preserved : goal.loop-i-preserved
loop-i-preserved c =
    let a = c.args in
    test_next _ c.loop-i.invariant c.loop-i-test.true
    (ap isUnchanged (item_read (table_of a.layers.now a.colors.now a.count) a.n a.ids.now a.covers.now a.flags.now c.loop-i.i c.loop-i-test.true c.item_at-x.ensures))
