-- `is_layer` meets its contract. Assumes nothing.
use Rattle.laws.proofs.Prelude.{arith, w32, kept}
use Rattle.job_lines.specs.Rules.{layer_rule}
use Rattle.job_lines.proofs.layer.is_layer.Goals as goal

pub returns : goal.returns
unfolding layer_rule
returns c =
    let l = c.args.l in
    rw (c.is_within-8.ensures, c.is_within-7.ensures, c.is_within-6.ensures, c.is_within-5.ensures, c.is_within-4.ensures, c.is_within-3.ensures, c.is_within-2.ensures, c.is_within.ensures, kept w32 l.clip (omega arith), kept w32 l.span (omega arith), kept w32 l.clipped (omega arith), kept w32 l.fill (omega arith), kept w32 l.mode (omega arith), kept w32 l.alpha (omega arith))
