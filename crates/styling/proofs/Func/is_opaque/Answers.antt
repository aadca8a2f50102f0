-- `styling::Func::is_opaque` meets its contract.
-- Assumes nothing.
use Rattle.laws.proofs.Prelude.{sym, ap}
use Rattle.styling.specs.Style.{is_opaque}
use Rattle.styling.proofs.Func.is_opaque.Goals as goal

pub returns-in-Draw : goal.returns-in-Draw
returns-in-Draw c = rw (c.is_opaque.ensures, c.code.ensures) (sym (ap is_opaque c.in-Draw.is))
