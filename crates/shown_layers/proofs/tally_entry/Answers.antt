-- `tally_entry` meets its contract. Assumes nothing.
use Rattle.shown_layers.proofs.Painting.{entry_painted}
use Rattle.shown_layers.proofs.tally_entry.Goals as goal

pub returns-then-unmasked : goal.returns-then-unmasked
returns-then-unmasked c =
    entry_painted _ _ _ _ _ _ c.paint_next-painted.result c.if-unmasked.true c.requires.2 c.paint_next-painted.ensures c.used_octets-used.ensures.0 c.used_octets-used.ensures.1
