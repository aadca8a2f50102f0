-- `write_colors` meets its contract: the invariant and its steps are those of `Filling`. Assumes nothing.
use Rattle.std.specs.Prelude.{◌*◌}
use Rattle.laws.proofs.Prelude.{ap, ◌∙◌, List, arith, Float, over}
use Rattle.job_statements.specs.Entries.{job_color_at}
use Rattle.job_statements.proofs.Filling.{next, end}
use Rattle.job_statements.proofs.Tables.{colors_are, alpha_at}
use Rattle.job_table.proofs.write_colors.Goals as goal

pub color_at-requires : goal.color_at-requires
color_at-requires c =
    let a = alpha_at c.args.numbers.now c.args.n c.loop-k.k c.requires.2 (omega arith) in
    (omega arith, a.0, a.1)

pub loop-k-preserved : goal.loop-k-preserved
loop-k-preserved c = next (4 * c.args.n) (job_color_at c.args.numbers.now) c.loop-k.invariant (omega arith) c.color_at.ensures

pub returns : goal.returns
returns c =
    end (4 * c.args.n) (job_color_at c.args.numbers.now) c.loop-k.invariant (omega arith)
    ∙ ap (λ (ws : List Float). over ws c.args.colors.now) (colors_are c.args.numbers.now c.args.n)
