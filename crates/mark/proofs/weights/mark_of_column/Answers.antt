-- `mark::weights::mark_of_column` meets its contract. Assumes nothing.
use Rattle.laws.proofs.Prelude.{sym, ap, ◌∙◌, List, arith, ℤ}
use Rattle.styling.specs.declared.FillRule.TheVariants.{EvenOdd}
use Rattle.cover_statements.specs.Mark.{mark_of}
use Rattle.cover_statements.specs.InnerWeighed.{weights_of, coverages_in, repeated}
use Rattle.cover_statements.proofs.Marks.{bit_lt}
use Rattle.cover_statements.proofs.Repeats.{mark_repeated}
use Rattle.mark.proofs.Rests.{own_weights}
use Rattle.mark.proofs.weights.mark_of_column.Goals as goal

pub overflow_mul-result : goal.overflow_mul-result
overflow_mul-result c = omega (arith, bit_lt c.is_used-lower.result)

pub overflow_add-result : goal.overflow_add-result
overflow_add-result c = omega (arith, bit_lt c.is_used-lower.result, bit_lt c.is_used-upper.result)

pub overflow_mul-result-2 : goal.overflow_mul-result-2
overflow_mul-result-2 c = omega (arith, bit_lt c.is_used-lower.result, bit_lt c.is_used-upper.result)

pub returns : goal.returns
returns c =
    rw (c.is_used-upper.ensures, c.is_used-lower.ensures)
    (sym (mark_repeated (coverages_in (weights_of EvenOdd c.args.weights.now)))
    ∙ ap (λ (l : List ℤ). mark_of (repeated 16 (coverages_in l))) (own_weights c.requires.0))
