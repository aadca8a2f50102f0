-- Painting a part in a tile four pixels high: its 64 coverages written into a lent plane. Refused by 1 where the plane is below 64 numbers, then by
-- 9. Stands for W-213, 'planes have 64 numbers' and 'numbers 1, 2 and 11 go by these sizes'. There is no mark: octets are not part of this profile.
use Rattle.refusals.specs.Refusal.{given_or_refused}
use Rattle.refusals.specs.declared.Refusal.{Refusal}
use Rattle.std.specs.Prelude.{◌≡◌, Result, Ok, Err}
use Rattle.laws.specs.Prelude.{List, ℕ, Float, ℤ, Answer, refused, given}
use Rattle.pixel_segment.specs.Field.{gpu}
use Rattle.styling.specs.declared.FillRule.{FillRule}
use Rattle.cover_statements.specs.Paint.{judged_part, painted_plane}

-- the lowest refusal that applies, or that nothing does
abbrev pub gpu_part_answer : List ℤ → List ℕ → List Float → Answer (Unit {0})
gpu_part_answer covers part old = judged_part gpu 4 covers part old tt

pub record GpuPainting (rule : FillRule) (covers : List ℤ) (part : List ℕ) (old : List Float) (r : Result Unit Refusal) (new : List Float) : Type 0 where
  pub answer : given_or_refused r ≡ gpu_part_answer covers part old
  pub plane_is : new ≡ painted_plane gpu 4 rule covers part old
