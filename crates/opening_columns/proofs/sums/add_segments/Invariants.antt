use Rattle.queue_statements.proofs.Summing.{key_of}
use Rattle.queue_statements.proofs.Tallying.{Tallying}
use Rattle.opening_columns.proofs.sums.add_segments.Given as goal

abbrev pub invariant-loop-word : goal.invariant-loop-word
invariant-loop-word l = Tallying (key_of l.left) l.left l.word-index l.sums l.loads
