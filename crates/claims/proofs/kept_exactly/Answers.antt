-- `kept_exactly` meets its contract: the theorems, cited. Assumes nothing.
use Rattle.kept_frames.proofs.AtNone.{rule_only_at_none}
use Rattle.kept_frames.proofs.None.{widest}
use Rattle.kept_frames.proofs.Plain.{alike_exact}
use Rattle.kept_frames.proofs.Twice.{twice_alike}
use Rattle.claims.proofs.kept_exactly.Goals as goal

pub returns : goal.returns
returns c = (alike_exact, widest, rule_only_at_none, twice_alike)
