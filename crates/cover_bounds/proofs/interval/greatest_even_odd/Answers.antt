-- `interval::greatest_even_odd` meets its contract. Assumes nothing.
use Rattle.laws.proofs.Prelude.{sym, ap₂, ◌∙◌, max, to_z-of_z}
use Rattle.cover_bounds_statements.proofs.Ends.{greatest_found, greatest_of_ends}
use Rattle.cover_bounds.proofs.interval.greatest_even_odd.Goals as goal

pub returns-then-has_multiple : goal.returns-then-has_multiple
returns-then-has_multiple c =
    greatest_found c.args.a c.args.b c.requires.1 (sym (rw (to_z-of_z c.ranges.a, to_z-of_z c.ranges.b) at c.has_multiple.ensures) ∙ c.if-has_multiple.true)

pub returns-else-has_multiple : goal.returns-else-has_multiple
returns-else-has_multiple c =
    greatest_of_ends c.args.a c.args.b c.requires.1 (sym (rw (to_z-of_z c.ranges.a, to_z-of_z c.ranges.b) at c.has_multiple.ensures) ∙ c.if-has_multiple.false)
    (c.max.ensures ∙ ap₂ max (rw (to_z-of_z c.ranges.a) at c.even_odd_in.ensures) (rw (to_z-of_z c.ranges.b) at c.even_odd_in-else-has_multiple.ensures))
