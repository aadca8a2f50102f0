use Rattle.styling.specs.declared.FillRule.TheVariants.{EvenOdd}
use Rattle.cover_statements.specs.Plane.{column_of, row_of}
use Rattle.cover_bounds_statements.specs.InnerPlanes.{least_in, greatest_in}
use Rattle.cover_bounds_statements.proofs.Loops.{Placing}
use Rattle.cover_bounds.proofs.planes.write_even_odd.Given as goal

abbrev pub invariant-loop-place : goal.invariant-loop-place
invariant-loop-place l = Placing 256 (λ p. least_in EvenOdd l.lows l.highs (column_of p) (row_of p)) l.initial.least l.place l.least × Placing 256 (λ p. greatest_in EvenOdd l.lows l.highs (column_of p) (row_of p)) l.initial.greatest l.place l.greatest
