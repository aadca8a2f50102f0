-- `passes::clips::mask_off` meets its contract. Assumes nothing.
use Rattle.pass_statements.proofs.Steps.{off_within, off_past}
use Rattle.passes.proofs.clips.mask_off.Goals as goal

pub returns-then-at-unmasked : goal.returns-then-at-unmasked
returns-then-at-unmasked c = let a = c.args in off_within a.unmasked.now a.i.0 c.if-off.true

pub returns-else-at-unmasked : goal.returns-else-at-unmasked
returns-else-at-unmasked c = let a = c.args in off_past a.unmasked.now a.i.0 c.if-off.true c.if-at-unmasked.false
