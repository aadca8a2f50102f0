-- `marks::mark_changed` meets its contract. Assumes nothing.
use Rattle.layer_table.specs.Table.{table_of}
use Rattle.layer_listing.proofs.Marking.{mark_start, mark_next, mark_end}
use Rattle.layer_listing.proofs.marks.mark_changed.Goals as goal

pub loop-i-init : goal.loop-i-init
loop-i-init c =
    let a = c.args in
    mark_start (table_of a.layers.now a.colors.now a.count) a.n a.ids.now a.flags.now

pub loop-i-preserved : goal.loop-i-preserved
loop-i-preserved c =
    mark_next (table_of c.args.layers.now c.args.colors.now c.args.count) c.args.n c.args.ids.now c.args.flags.now c.requires.2 c.loop-i.invariant c.loop-i-test.true c.is_changed.ensures

pub returns : goal.returns
returns c =
    mark_end (table_of c.args.layers.now c.args.colors.now c.args.count) c.args.n c.args.ids.now c.args.flags.now c.requires.2 c.loop-i.invariant c.loop-i-test.false
