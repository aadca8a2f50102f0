use Rattle.cover_statements.specs.Plane.{column_of, row_of}
use Rattle.cover_bounds_statements.specs.InnerPlanes.{area_in}
use Rattle.cover_bounds_statements.proofs.Loops.{Placing}
use Rattle.cover_bounds.proofs.planes.write_areas.Given as goal

abbrev pub invariant-loop-place : goal.invariant-loop-place
invariant-loop-place l = Placing 256 (λ p. area_in l.areas (column_of p) (row_of p)) l.initial.plane l.place l.plane
