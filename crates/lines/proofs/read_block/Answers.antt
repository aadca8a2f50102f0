-- `read_block` meets its contract: the two answers are laws of `Blocks`.
-- Assumes nothing.
use Rattle.lines.proofs.Blocks.{no_names, names_then}
use Rattle.lines.proofs.read_block.Goals as goal

pub returns-in_err-first : goal.returns-in_err-first
returns-in_err-first c = rw c.from_residual.ensures (no_names _ _ c.in_err-first.ensures)

pub read_lines-requires : goal.read_lines-requires
read_lines-requires c = (c.in_ok-first.ensures.within, c.requires.1)

pub returns : goal.returns
returns c = names_then _ _ c.in_ok-first.ensures c.read_lines.ensures
