-- `passes::clips::mark` meets its contract. Assumes nothing.
use Rattle.laws.proofs.Prelude.{refl}
use Rattle.pass_statements.proofs.Steps.{off_after}
use Rattle.passes.proofs.clips.mark.Goals as goal

pub returns : goal.returns
returns c =
    let a = c.args in
    (off_after a.unmasked.now a.i.0 a.s c.mask_off.ensures c.mask_off-2.ensures, refl)
