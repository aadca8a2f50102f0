use Rattle.std.specs.Prelude.{◌*◌}
use Rattle.job_statements.specs.Entries.{word_at}
use Rattle.job_statements.proofs.Filling.{Filling}
use Rattle.job_table.proofs.write_words.Given as goal

abbrev pub invariant-loop-k : goal.invariant-loop-k
invariant-loop-k l = Filling (8 * l.n) (word_at l.numbers) l.initial.layers l.k l.layers
