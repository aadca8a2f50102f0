-- `passes::clips::mask_last` meets its contract. Assumes nothing.
use Rattle.pass_statements.proofs.Steps.{last_active}
use Rattle.passes.proofs.clips.mask_last.Goals as goal

pub returns-in-Some : goal.returns-in-Some
returns-in-Some c = last_active _ c.in-Some.is c.mask_off.ensures
