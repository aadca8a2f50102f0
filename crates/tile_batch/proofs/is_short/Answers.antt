-- `is_short` meets its contract. Assumes nothing.
use Rattle.tile_batch.proofs.is_short.Goals as goal

pub returns : goal.returns
returns c = rw (c.is_short.ensures, c.is_short-2.ensures, c.is_short-3.ensures)
