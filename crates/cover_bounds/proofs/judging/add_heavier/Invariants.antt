use Rattle.pixel_segment.specs.Field.{cpu}
use Rattle.cover_statements.proofs.Loads.{Loading}
use Rattle.cover_bounds_statements.specs.Chosen.{chosen, heavier}
use Rattle.cover_bounds_statements.specs.Within.{bound_at}
use Rattle.cover_bounds.proofs.judging.add_heavier.Given as goal

abbrev pub invariant-loop-i : goal.invariant-loop-i
invariant-loop-i l = Loading cpu 16 (chosen cpu l.part (λ j. heavier (bound_at 0 l.bounds j) (bound_at 1 l.bounds j))) l.initial.loads l.i l.loads
