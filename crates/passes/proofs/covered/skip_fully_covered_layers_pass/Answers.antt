-- `passes::covered::skip_fully_covered_layers_pass` meets its contract. Assumes nothing.
use Rattle.std.specs.Prelude.{◌-◌}
use Rattle.laws.proofs.Prelude.{arith}
use Rattle.layer_table.specs.Table.{table_of}
use Rattle.pass_statements.proofs.Covering.{look_start, look_masked, look_next, look_found, look_end}
use Rattle.pass_statements.proofs.Listing.{length_items, item_read}
use Rattle.passes.proofs.covered.skip_fully_covered_layers_pass.Goals as goal

pub loop-i-init : goal.loop-i-init
loop-i-init c = look_start (length_items _ _ _ _ _) c.start-found.ensures

pub returns-then-hides : goal.returns-then-hides
returns-then-hides c =
    let p = c.loop-i-test.true in
    let a = c.args in
    let i = c.loop-i.i - 1 in
    look_found c.loop-i.invariant p c.if-unmasked-i.true
    (item_read (table_of a.layers.now a.colors.now a.count) a.n a.ids.now a.covers.now a.flags.now i (omega (arith, c.loop-i.invariant.reached)) c.item_at-x.ensures)
    c.look_at-found.ensures
    c.hides.ensures
    c.if-hides.true

pub loop-i-preserved-else-hides : goal.loop-i-preserved-else-hides
loop-i-preserved-else-hides c =
    let p = c.loop-i-test.true in
    let a = c.args in
    let i = c.loop-i.i - 1 in
    look_next c.loop-i.invariant p c.if-unmasked-i.true
    (item_read (table_of a.layers.now a.colors.now a.count) a.n a.ids.now a.covers.now a.flags.now i (omega (arith, c.loop-i.invariant.reached)) c.item_at-x.ensures)
    c.look_at-found.ensures
    c.hides.ensures
    c.if-hides.false

pub loop-i-preserved : goal.loop-i-preserved
loop-i-preserved c = look_masked c.loop-i.invariant c.loop-i-test.true c.if-unmasked-i.false

pub returns : goal.returns
returns c = look_end c.loop-i.invariant c.loop-i-test.false
