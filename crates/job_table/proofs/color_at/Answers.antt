-- `color_at` meets its contract. Assumes nothing.
use Rattle.std.specs.Prelude.{◌+◌, ◌*◌, ◌/◌}
use Rattle.laws.proofs.Prelude.{eq-eqb, ne_eqb, w32, kept}
use Rattle.job_text_statements.specs.Numbers.{number_at}
use Rattle.job_statements.specs.Entries.{job_color_at}
use Rattle.job_table.proofs.color_at.Goals as goal

pub returns-then-k-eq3 : goal.returns-then-k-eq3
unfolding job_color_at
returns-then-k-eq3 c =
    let a = c.args in
    rw (eq-eqb _ 3 c.if-k-eq3.true) (rw (kept w32 (number_at a.numbers.now (8 * (a.k / 4) + 7)) c.to_alpha-arg-1.given) at c.to_alpha.ensures)

pub returns-else-k-eq3 : goal.returns-else-k-eq3
unfolding job_color_at
returns-else-k-eq3 c = rw (ne_eqb _ 3 c.if-k-eq3.false)
