-- `full_cover_steps::hides` meets its contract. Assumes nothing.
use Rattle.full_cover_steps.proofs.hides.Goals as goal

pub returns : goal.returns
returns c = rw (c.is_partial.ensures, c.is_opaque.ensures)
