use Rattle.segment_set_statements.proofs.Begins.{Starting}
use Rattle.segment_set.proofs.editing.start_areas.Given as goal

abbrev pub invariant-loop-k : goal.invariant-loop-k
invariant-loop-k l = Starting l.covers l.initial.areas l.k l.areas
