-- `mark::weights::mark_of` meets its contract. Assumes nothing.
use Rattle.std.specs.Prelude.{◌-◌}
use Rattle.laws.proofs.Prelude.{◌∙◌, arith}
use Rattle.styling.specs.declared.FillRule.TheVariants.{EvenOdd}
use Rattle.cover_statements.specs.InnerWeighed.{weights_of, coverages_in}
use Rattle.cover_statements.proofs.Marks.{mark_start, mark_small, mark_next, mark_end, bit_lt, octet_used}
use Rattle.mark.proofs.weights.mark_of.Goals as goal

pub loop-octet-init : goal.loop-octet-init
loop-octet-init c = mark_start

pub overflow_mul-mark : goal.overflow_mul-mark
overflow_mul-mark c = omega (arith, mark_small c.loop-octet.invariant c.loop-octet-test.true)

pub overflow_add-mark : goal.overflow_add-mark
overflow_add-mark c =
    omega (arith, mark_small c.loop-octet.invariant c.loop-octet-test.true, bit_lt c.is_used.result)

pub loop-octet-preserved : goal.loop-octet-preserved
loop-octet-preserved c =
    mark_next c.loop-octet.invariant c.loop-octet-test.true
    (c.is_used.ensures ∙ octet_used (coverages_in (weights_of EvenOdd c.args.areas.now)) (c.loop-octet.octet - 1) (omega (arith, c.loop-octet.invariant.reached)))

pub returns : goal.returns
returns c = mark_end c.loop-octet.invariant c.loop-octet-test.false
