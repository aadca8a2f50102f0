-- `interval::least_non_zero` meets its contract. Assumes nothing.
use Rattle.laws.proofs.Prelude.{sym, ap₂, ◌∙◌, min, to_z-of_z}
use Rattle.styling.specs.declared.FillRule.TheVariants.{NonZero}
use Rattle.cover_bounds_statements.proofs.Ends.{least_found, least_of_ends}
use Rattle.cover_bounds.proofs.interval.least_non_zero.Goals as goal

pub returns-then-has_zero : goal.returns-then-has_zero
returns-then-has_zero c =
    least_found c.args.a c.args.b c.requires NonZero (sym (rw (to_z-of_z c.ranges.a, to_z-of_z c.ranges.b) at c.has_zero.ensures) ∙ c.if-has_zero.true)

pub returns-else-has_zero : goal.returns-else-has_zero
returns-else-has_zero c =
    least_of_ends c.args.a c.args.b c.requires NonZero (sym (rw (to_z-of_z c.ranges.a, to_z-of_z c.ranges.b) at c.has_zero.ensures) ∙ c.if-has_zero.false)
    (c.min.ensures ∙ ap₂ min (rw (to_z-of_z c.ranges.a) at c.non_zero.ensures) (rw (to_z-of_z c.ranges.b) at c.non_zero-else-has_zero.ensures))
