use Rattle.std.specs.Prelude.{◌≤◌}
use Rattle.laws.proofs.Prelude.{length}
use Rattle.pixel_segment.specs.Field.{cpu}
use Rattle.cover_bounds_statements.specs.Chosen.{chosen}
use Rattle.cover_bounds_statements.specs.Within.{bound_at}
use Rattle.cover_bounds_statements.proofs.Loops.{Adding}
use Rattle.cover_bounds.proofs.area.add_bounds.Given as goal

abbrev pub invariant-loop-i : goal.invariant-loop-i
invariant-loop-i l = (l.i ≤ length l.part) × Adding (chosen cpu l.part (bound_at l.side l.bounds)) l.i l.areas l.covers
