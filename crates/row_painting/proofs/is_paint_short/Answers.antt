-- `is_paint_short` meets its contract. Assumes nothing.
use Rattle.row_painting.proofs.is_paint_short.Goals as goal

pub returns : goal.returns
returns c = rw (c.is_short.ensures, c.is_short-2.ensures)
