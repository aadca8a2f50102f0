-- `paint_entry` meets its contract. Assumes nothing.
use Rattle.batch_painting.proofs.Walking.{entry_passed}
use Rattle.batch_painting.proofs.paint_entry.Goals as goal

pub returns-then-unmasked : goal.returns-then-unmasked
returns-then-unmasked c = rw c.if-unmasked.true c.paint_layer.ensures

pub returns-else-unmasked : goal.returns-else-unmasked
returns-else-unmasked c = entry_passed _ _ _ _ _ _ _ c.if-unmasked.false c.pass_over-passed.ensures
