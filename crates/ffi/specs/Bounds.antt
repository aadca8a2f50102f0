-- Covers known within bounds, told by numbers: the refusal or 0, and the six lent planes.
use Rattle.refusals.specs.declared.Refusal.{Refusal}
use Rattle.std.specs.Prelude.{◌≡◌, Result}
use Rattle.laws.specs.Prelude.{ℕ}
use Rattle.refusals.specs.Refusal.{Judgement, pass, refuse}
use Rattle.cover_bounds_statements.specs.Within.{BoundsCall, BoundPlanes, bounds_verdict}
use Rattle.cover_bounds_statements.specs.Part.{BoundsPart}

-- the number of a judgement, 0 where it passes
abbrev pub bounds_number : Judgement → ℕ
bounds_number pass = 0
bounds_number (refuse number) = number

-- the number, and all that the operation promises of the planes
pub record BoundsTold (call : BoundsCall) (old : BoundPlanes) (r : ℕ) (new : BoundPlanes) : Type 0 where
  pub number : r ≡ bounds_number (bounds_verdict call old)
  pub verdict : Result Unit Refusal
  pub planes : BoundsPart call old verdict new
