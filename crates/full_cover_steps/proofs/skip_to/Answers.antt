-- `full_cover_steps::skip_to` meets its contract. Assumes nothing.
use Rattle.full_cover_steps.proofs.skip_to.Goals as goal

pub returns-then-hidden : goal.returns-then-hidden
returns-then-hidden c = rw c.if-hidden.true
