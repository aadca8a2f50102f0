use Rattle.job_statements.proofs.Rows.{Writing}
use Rattle.job_row.proofs.write_row.Given as goal

abbrev pub invariant-loop-i : goal.invariant-loop-i
invariant-loop-i l = Writing l.number l.numbers l.m l.initial.row l.at l.i l.row
