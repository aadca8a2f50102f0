use Rattle.job_statements.proofs.Rows.{Repeating}
use Rattle.job_row.proofs.write_segment.Given as goal

abbrev pub invariant-loop-i : goal.invariant-loop-i
invariant-loop-i l = Repeating l.tile_y l.f l.initial.row l.at l.i l.row
