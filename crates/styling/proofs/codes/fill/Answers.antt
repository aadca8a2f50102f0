-- `styling::codes::fill` meets its contract.
-- Assumes nothing.
use Rattle.laws.proofs.Prelude.{refl, sym, arith, take}
use Rattle.styling.specs.declared.Fill.TheVariants.{Texture}
use Rattle.styling.specs.Codes.{fills}
use Rattle.styling.proofs.Coded.{last_case}
use Rattle.styling.proofs.codes.fill.Goals as goal

pub returns-in-0 : goal.returns-in-0
returns-in-0 c = rw c.in-0.is refl

pub returns-in_default : goal.returns-in_default
returns-in_default c = sym (last_case (take 2 (fills c.args.color)) Texture c.args.code (omega arith))
