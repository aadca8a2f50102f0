-- `interval::greatest_non_zero` meets its contract. Assumes nothing.
use Rattle.laws.proofs.Prelude.{ap₂, ◌∙◌, max, to_z-of_z}
use Rattle.cover_bounds_statements.proofs.Ends.{greatest_of_both}
use Rattle.cover_bounds.proofs.interval.greatest_non_zero.Goals as goal

pub returns : goal.returns
returns c =
    greatest_of_both c.args.a c.args.b c.requires
    (c.max.ensures ∙ ap₂ max (rw (to_z-of_z c.ranges.a) at c.non_zero.ensures) (rw (to_z-of_z c.ranges.b) at c.non_zero-2.ensures))
