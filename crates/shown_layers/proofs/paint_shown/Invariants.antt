use Rattle.std.specs.Prelude.{◌≡◌, ◌+◌}
use Rattle.laws.proofs.Prelude.{length}
use Rattle.layer_table.specs.Table.{table_of}
use Rattle.shown_layers.proofs.Painting.{Shown}
use Rattle.shown_layers.proofs.paint_shown.Given as goal

abbrev pub invariant-loop-unmasked : goal.invariant-loop-unmasked
invariant-loop-unmasked l =
    Shown (table_of l.layers l.colors l.count) l.n l.ids l.covers l.part l.list_unmasked l.skipped l.listed l.tally (l.skipped + l.unmasked-index) × (length l.plane ≡ 256)
