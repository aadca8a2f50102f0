-- `paint_listed` meets its contract: the invariant and its steps are those of `Walking`. Assumes nothing.
use Rattle.std.specs.Prelude.{◌+◌, ◌<◌}
use Rattle.std.proofs.Common.{add_assoc, length-take, length-drop}
use Rattle.laws.proofs.Prelude.{false, arith}
use Rattle.layer_table.specs.Table.{table_of}
use Rattle.shown_layers.proofs.Rest.{get_or_between}
use Rattle.batch_painting.proofs.Walking.{walked_next, walked_end}
use Rattle.batch_painting.proofs.paint_listed.Goals as goal

pub loop-unmasked-preserved : goal.loop-unmasked-preserved
loop-unmasked-preserved c =
    let a = c.args in
    let l = c.loop-unmasked in
    let e = c.paint_entry-at in
    let here : a.skipped + l.unmasked-index < a.listed = omega (arith, simp (length-take, length-drop) at c.loop-unmasked-test.true) in
    rw (← add_assoc a.skipped l.unmasked-index 1)
    (walked_next (table_of a.layers.now a.colors.now a.count) a.n a.ids.now a.covers.now a.part.now a.list_unmasked.now a.skipped a.listed a.used a.planes.now a.painted.now c.requires.1 e.result l.invariant here
    (rw (get_or_between a.list_unmasked.now a.skipped a.listed l.unmasked-index false here) at e.ensures))

pub returns : goal.returns
returns c =
    let a = c.args in
    walked_end (table_of a.layers.now a.colors.now a.count) a.n a.ids.now a.covers.now a.part.now a.list_unmasked.now a.skipped a.listed a.used a.planes.now a.painted.now c.requires.1 c.loop-unmasked.invariant
    (omega (arith, c.requires.1, c.loop-unmasked-test.false))
