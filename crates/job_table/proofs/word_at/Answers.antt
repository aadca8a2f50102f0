-- `word_at` meets its contract. Assumes nothing.
use Rattle.laws.proofs.Prelude.{eq-eqb, ne_eqb, w32, kept}
use Rattle.job_text_statements.specs.Numbers.{number_at}
use Rattle.job_statements.specs.Entries.{word_at}
use Rattle.job_table.proofs.word_at.Goals as goal

pub returns-then-k-eq7 : goal.returns-then-k-eq7
unfolding word_at
returns-then-k-eq7 c = rw (eq-eqb _ 7 c.if-k-eq7.true)

pub returns-else-k-eq7 : goal.returns-else-k-eq7
unfolding word_at
returns-else-k-eq7 c =
    let a = c.args in
    rw (ne_eqb _ 7 c.if-k-eq7.false) (rw (kept w32 (number_at a.numbers.now a.k) c.to_word-arg-1.given) at c.to_word.ensures)
