-- `mark::mark_plane` meets its contract. Assumes nothing.
use Rattle.laws.proofs.Prelude.{lt-ltb, le-ltb}
use Rattle.mark.proofs.mark_plane.Goals as goal

pub returns-then-plane-lt256 : goal.returns-then-plane-lt256
returns-then-plane-lt256 c = rw (lt-ltb _ 256 c.if-plane-lt256.true)

pub returns-else-plane-lt256 : goal.returns-else-plane-lt256
returns-else-plane-lt256 c = rw (le-ltb _ 256 c.if-plane-lt256.false, c.mark_of.ensures)
