use Rattle.std.specs.Prelude.{◌*◌}
use Rattle.job_statements.specs.Entries.{job_color_at}
use Rattle.job_statements.proofs.Filling.{Filling}
use Rattle.job_table.proofs.write_colors.Given as goal

abbrev pub invariant-loop-k : goal.invariant-loop-k
invariant-loop-k l = Filling (4 * l.n) (job_color_at l.numbers) l.initial.colors l.k l.colors
