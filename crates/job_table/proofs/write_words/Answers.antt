-- `write_words` meets its contract: the invariant and its steps are those of `Filling`. Assumes nothing.
use Rattle.std.specs.Prelude.{◌*◌}
use Rattle.laws.proofs.Prelude.{ap, ◌∙◌, List, ℕ, arith, over}
use Rattle.job_statements.specs.Entries.{word_at}
use Rattle.job_statements.proofs.Filling.{next, end}
use Rattle.job_statements.proofs.Tables.{words_are}
use Rattle.job_table.proofs.write_words.Goals as goal

pub loop-k-preserved : goal.loop-k-preserved
loop-k-preserved c = next (8 * c.args.n) (word_at c.args.numbers.now) c.loop-k.invariant (omega arith) c.word_at.ensures

pub returns : goal.returns
returns c =
    end (8 * c.args.n) (word_at c.args.numbers.now) c.loop-k.invariant (omega arith)
    ∙ ap (λ (ws : List ℕ). over ws c.args.layers.now) (words_are c.args.numbers.now c.args.n)
