-- `plane::sum_areas` meets its contract. Assumes nothing.
use Rattle.laws.proofs.Prelude.{sym}
use Rattle.plane.proofs.sum_areas.Goals as goal

pub sum_areas-requires : goal.sum_areas-requires
sum_areas-requires c = (c.requires.1 c.if-is_known.true, c.requires.0)

pub returns-then-is_known : goal.returns-then-is_known
returns-then-is_known c = record { light = sym (c.requires.1 c.if-is_known.true); areas_are = λ e. c.sum_areas.ensures }

pub judged_areas-requires : goal.judged_areas-requires
judged_areas-requires c = c.requires.0

pub returns-else-is_known : goal.returns-else-is_known
returns-else-is_known c = c.judged_areas.ensures
