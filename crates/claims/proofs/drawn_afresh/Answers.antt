-- `drawn_afresh` meets its contract: the theorems, cited. Assumes nothing.
use Rattle.kept_frames.proofs.Afresh.{flags_no_part}
use Rattle.kept_frames.proofs.ByPicture.{decision_by_picture}
use Rattle.kept_frames.proofs.Changed.{worked_afresh}
use Rattle.kept_frames.proofs.Refuted.{wrongly_kept, painters_clip}
use Rattle.claims.proofs.drawn_afresh.Goals as goal

pub returns : goal.returns
returns c = (worked_afresh, flags_no_part, decision_by_picture, painters_clip, wrongly_kept)
