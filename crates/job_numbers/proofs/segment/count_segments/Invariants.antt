use Rattle.job_text_statements.proofs.Counting.{Counting}
use Rattle.job_numbers.proofs.segment.count_segments.Given as goal

abbrev pub invariant-loop-i : goal.invariant-loop-i
invariant-loop-i l = Counting l.numbers l.m l.i l.count
