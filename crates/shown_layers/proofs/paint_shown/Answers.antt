-- `paint_shown` meets its contract: the invariant and its steps are those of `Painting`. Assumes nothing.
use Rattle.std.specs.Prelude.{◌+◌, ◌<◌}
use Rattle.std.proofs.Common.{add_assoc, length-take, length-drop}
use Rattle.laws.proofs.Prelude.{◌∙◌, false, arith}
use Rattle.shown_layers.proofs.Rest.{get_or_between}
use Rattle.layer_table.specs.Table.{table_of}
use Rattle.shown_layers.proofs.Painting.{shown_next, shown_end}
use Rattle.shown_layers.proofs.paint_shown.Goals as goal

pub loop-unmasked-preserved : goal.loop-unmasked-preserved
loop-unmasked-preserved c =
    let a = c.args in
    let l = c.loop-unmasked in
    let e = c.tally_entry-tally in
    let here : a.skipped + l.unmasked-index < a.listed = omega (arith, simp (length-take, length-drop) at c.loop-unmasked-test.true) in (
      rw (← add_assoc a.skipped l.unmasked-index 1)
          (shown_next (table_of a.layers.now a.colors.now a.count) a.n a.ids.now a.covers.now a.part.now a.list_unmasked.now a.skipped a.listed c.requires.1 e.result l.invariant.0 here
          (rw (get_or_between a.list_unmasked.now a.skipped a.listed l.unmasked-index false here) at e.ensures)),
      e.auto.plane ∙ l.invariant.1,
    )

pub returns : goal.returns
returns c =
    let a = c.args in
    shown_end (table_of a.layers.now a.colors.now a.count) a.n a.ids.now a.covers.now a.part.now a.list_unmasked.now a.skipped a.listed c.requires.1 c.loop-unmasked.invariant.0 (omega (arith, c.requires.1, c.loop-unmasked-test.false))
