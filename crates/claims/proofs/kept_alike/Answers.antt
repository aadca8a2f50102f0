-- `kept_alike` meets its contract: the theorems, cited. Assumes nothing.
use Rattle.kept_frames.proofs.Kept.{first_pass_right}
use Rattle.kept_frames.proofs.None.{uncounted_drawn, none_right}
use Rattle.kept_frames.proofs.Plain.{full_cover_right}
use Rattle.kept_frames.proofs.Settled.{solid_right, first_shown}
use Rattle.claims.proofs.kept_alike.Goals as goal

pub returns : goal.returns
returns c = (first_pass_right, full_cover_right, none_right, uncounted_drawn, solid_right, first_shown)
