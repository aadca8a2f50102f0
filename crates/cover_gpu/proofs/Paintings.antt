-- What painting answers in each case: uses at 4 of the laws over the height. Assumes nothing.
use Rattle.refusals.specs.declared.Refusal.{Refusal}
use Rattle.refusals.specs.declared.Refusal.TheVariants.{Room}
use Rattle.std.specs.Prelude.{◌≡◌, ◌≤◌, ◌<◌, Result, Ok, Err, IsOk}
use Rattle.laws.proofs.Prelude.{refl, sym, ◌∙◌, true, List, ℕ, Float, ℤ, length, given, over}
use Rattle.pixel_segment.specs.Field.{gpu}
use Rattle.styling.specs.declared.FillRule.{FillRule}
use Rattle.cover_statements.specs.Carry.{is_light}
use Rattle.cover_statements.specs.Cover.{cover_at}
use Rattle.cover_statements.specs.Plane.{plane_of}
use Rattle.cover_statements.proofs.Paintings.{part_short, part_given, plane_short, plane_painted}
use Rattle.cover_gpu.specs.GpuPaint.{GpuPainting}
use Rattle.refusals.specs.Refusal.{given_or_refused}

pub is_painted : (r : Result Unit Refusal) → given_or_refused r ≡ given tt → IsOk r
is_painted (Ok done) e = refl
is_painted (Err refusal) e = cc

module _ {rule : FillRule} {covers : List ℤ} {part : List ℕ} {old : List Float} where
  pub gpu_short : length old < 64 → GpuPainting rule covers part old (Err Room) old
  gpu_short h = record { answer = sym (part_short gpu 4 covers part old tt h); plane_is = sym (plane_short gpu 4 rule covers part old h) }

  pub gpu_done : {new : List Float} → 64 ≤ length old → is_light gpu 4 covers part ≡ true → new ≡ over (plane_of gpu 4 rule (cover_at covers) part) old → GpuPainting rule covers part old (Ok tt) new
  gpu_done h e p = record { answer = sym (part_given gpu 4 covers part old tt h e); plane_is = p ∙ sym (plane_painted gpu 4 rule covers part old h e) }

  -- where nothing refuses it, it is painted, and the plane holds the coverages
  pub gpu_ok : {r : Result Unit Refusal} {new : List Float} → GpuPainting rule covers part old r new → 64 ≤ length old → is_light gpu 4 covers part ≡ true → IsOk r
  gpu_ok {r} p h e = is_painted r (p.answer ∙ part_given gpu 4 covers part old tt h e)

  pub gpu_plane : {r : Result Unit Refusal} {new : List Float} → GpuPainting rule covers part old r new → 64 ≤ length old → is_light gpu 4 covers part ≡ true → new ≡ over (plane_of gpu 4 rule (cover_at covers) part) old
  gpu_plane p h e = p.plane_is ∙ plane_painted gpu 4 rule covers part old h e
