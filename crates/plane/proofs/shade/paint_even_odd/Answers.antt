-- `plane::shade::paint_even_odd` meets its contract. Assumes nothing.
use Rattle.plane.proofs.shade.paint_even_odd.Goals as goal

pub write_even_odd-requires : goal.write_even_odd-requires
write_even_odd-requires c = c.requires

pub mark_of-requires : goal.mark_of-requires
mark_of-requires c = c.requires.0

pub returns : goal.returns
returns c = (c.write_even_odd.ensures, c.mark_of.ensures)
