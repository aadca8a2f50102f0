-- `interval::least_even_odd` meets its contract. Assumes nothing.
use Rattle.laws.proofs.Prelude.{sym, ap₂, ◌∙◌, min, to_z-of_z}
use Rattle.styling.specs.declared.FillRule.TheVariants.{EvenOdd}
use Rattle.cover_bounds_statements.proofs.Ends.{least_found, least_of_ends}
use Rattle.cover_bounds.proofs.interval.least_even_odd.Goals as goal

pub returns-then-has_multiple : goal.returns-then-has_multiple
returns-then-has_multiple c =
    least_found c.args.a c.args.b c.requires.1 EvenOdd (sym (rw (to_z-of_z c.ranges.a, to_z-of_z c.ranges.b) at c.has_multiple.ensures) ∙ c.if-has_multiple.true)

pub returns-else-has_multiple : goal.returns-else-has_multiple
returns-else-has_multiple c =
    least_of_ends c.args.a c.args.b c.requires.1 EvenOdd (sym (rw (to_z-of_z c.ranges.a, to_z-of_z c.ranges.b) at c.has_multiple.ensures) ∙ c.if-has_multiple.false)
    (c.min.ensures ∙ ap₂ min (rw (to_z-of_z c.ranges.a) at c.even_odd_in.ensures) (rw (to_z-of_z c.ranges.b) at c.even_odd_in-else-has_multiple.ensures))
