-- `backwards` meets its contract: the theorems, cited. Assumes nothing.
use Rattle.cover_statements.proofs.Joined.{joined}
use Rattle.two_rows.proofs.Backwards as two
use Rattle.two_rows.proofs.Both.{runs_both}
use Rattle.two_rows.proofs.Lowest.{fails}
use Rattle.claims.proofs.Opposite.{opposite_words}
use Rattle.claims.proofs.backwards.Goals as goal

pub returns : goal.returns
returns c = (opposite_words, two.backwards, two.opens_both, runs_both, fails, joined)
