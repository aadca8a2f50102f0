-- `styling::codes::blend_mode` meets its contract.
-- Assumes nothing.
use Rattle.laws.proofs.Prelude.{sym, arith, take}
use Rattle.styling.specs.declared.BlendMode.TheVariants.{Luminosity}
use Rattle.styling.specs.Codes.{modes}
use Rattle.styling.proofs.Coded.{last_case}
use Rattle.styling.proofs.codes.blend_mode.Goals as goal

pub returns-in_default : goal.returns-in_default
returns-in_default c = sym (last_case (take 15 modes) Luminosity c.args.code (omega arith))
