-- `mark::is_used` meets its contract. Assumes nothing.
use Rattle.cover_statements.proofs.Marks.{used_eight}
use Rattle.mark.proofs.is_used.Goals as goal

pub returns : goal.returns
returns c =
    used_eight c.args.plane.now c.args.octet
