-- `plane::light::sum_areas` meets its contract. Assumes nothing.
use Rattle.laws.proofs.Prelude.{refl}
use Rattle.cover_statements.specs.InnerCell.{no_cells}
use Rattle.plane.proofs.light.sum_areas.Goals as goal

pub add_segments-requires : goal.add_segments-requires
unfolding no_cells
add_segments-requires c = (c.requires.0, c.requires.1, refl)

pub sum_columns-requires : goal.sum_columns-requires
sum_columns-requires c = record { part = _; cells = c.add_segments.ensures; light = c.requires.0 }

pub returns : goal.returns
returns c = c.sum_columns.ensures.areas_are _ c.add_segments.ensures
