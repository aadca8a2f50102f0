-- `count_shown` meets its contract: the invariant and its steps are those of `Counting`. Assumes nothing.
use Rattle.std.specs.Prelude.{◌+◌}
use Rattle.laws.proofs.Prelude.{ap, ℕ}
use Rattle.shown_layers.proofs.Tallying.{count_next, count_end}
use Rattle.shown_layers.proofs.count_shown.Goals as goal

pub loop-i-preserved : goal.loop-i-preserved
loop-i-preserved c =
    count_next c.loop-i.invariant c.requires.1 c.loop-i-test.true (ap (λ (n : ℕ). c.loop-i.shown + n) c.from-shown.ensures)

pub returns : goal.returns
returns c = record { count = count_end c.loop-i.invariant c.requires.1 c.loop-i-test.false }
