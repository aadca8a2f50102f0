-- `area::sum_bounds` meets its contract. Assumes nothing.
use Rattle.laws.proofs.Prelude.{refl}
use Rattle.cover_statements.specs.InnerCell.{no_cells}
use Rattle.cover_bounds.proofs.area.sum_bounds.Goals as goal

pub add_bounds-requires : goal.add_bounds-requires
unfolding no_cells
add_bounds-requires c = (c.requires.0, c.requires.2, refl)

pub returns : goal.returns
returns c = c.sum_columns.ensures.areas_are _ c.add_bounds.ensures
