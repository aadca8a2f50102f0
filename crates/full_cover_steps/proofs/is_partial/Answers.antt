-- `full_cover_steps::is_partial` meets its contract. Assumes nothing.
use Rattle.full_cover_steps.proofs.is_partial.Goals as goal

pub returns : goal.returns
returns c = rw c.is_clipped.ensures
