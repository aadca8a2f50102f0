-- `mark::octets` meets its contract. Assumes nothing.
use Rattle.laws.proofs.Prelude.{refl, ap, ◌∙◌, ones}
use Rattle.cover_statements.proofs.Marks.{ones_mark}
use Rattle.mark.proofs.octets.Goals as goal

pub returns : goal.returns
returns c = record { ones_are = refl; used = λ plane e. ap ones e ∙ ones_mark plane }
