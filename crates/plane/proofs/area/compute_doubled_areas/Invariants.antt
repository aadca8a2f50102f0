use Rattle.std.specs.Prelude.{◌≤◌}
use Rattle.laws.proofs.Prelude.{List, ℕ, ℤ}
use Rattle.cover_statements.specs.InnerCell.{Shaded}
use Rattle.plane.proofs.area.compute_doubled_areas.Given as goal

-- the sums that a loop over both would have by then
pub record Shading (column y : ℕ) (areas₀ covers sums areas : List ℤ) : Type 0 where
  pub reached : y ≤ 16
  pub next : List ℤ
  pub shaded : Shaded 16 column y areas₀ covers sums areas next

abbrev pub invariant-loop-y : goal.invariant-loop-y
invariant-loop-y l = Shading l.column l.y l.initial.areas l.covers l.sums l.areas
