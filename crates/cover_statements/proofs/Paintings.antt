-- What painting answers in each case. Assumes nothing.
use Rattle.refusals.specs.declared.Refusal.{Refusal}
use Rattle.refusals.specs.declared.Refusal.TheVariants.{Covers, Room}
use Rattle.std.specs.Prelude.{◌≡◌, ◌≤◌, ◌<◌, Result, Ok, Err, IsOk}
use Rattle.laws.proofs.Prelude.{refl, sym, ap, ◌∙◌, true, false, List, ℕ, lt-ltb, le-ltb, le-leb, lt-leb, Float, ℤ, length, refused, given}
use Rattle.laws.proofs.Prelude.{over}
use Rattle.refusals.specs.Refusal.{given_or_refused}
use Rattle.styling.specs.declared.FillRule.{FillRule}
use Rattle.cover_statements.specs.Carry.{is_light}
use Rattle.cover_statements.specs.Cover.{cover_at}
use Rattle.cover_statements.specs.Mark.{mark_of}
use Rattle.cover_statements.specs.Paint.{part_plane, judged_part, painted_plane, Painting}
use Rattle.cover_statements.specs.Plane.{size_of, plane_of}

-- ---- over any widths and any height

module _ (ws : List ℕ) (n : ℕ) (covers : List ℤ) (part : List ℕ) (old : List Float) {A : Type 0} (a : A) where
  pub part_short : length old < size_of n → judged_part ws n covers part old a ≡ refused 1
  part_short h = rw (lt-ltb (length old) (size_of n) h)

  pub part_heavy : size_of n ≤ length old → is_light ws n covers part ≡ false → judged_part ws n covers part old a ≡ refused 9
  part_heavy h e = rw (le-ltb (length old) (size_of n) h, e)

  pub part_given : size_of n ≤ length old → is_light ws n covers part ≡ true → judged_part ws n covers part old a ≡ given a
  part_given h e = rw (le-ltb (length old) (size_of n) h, e)

module _ (ws : List ℕ) (n : ℕ) (rule : FillRule) (covers : List ℤ) (part : List ℕ) (old : List Float) where
  pub plane_short : length old < size_of n → painted_plane ws n rule covers part old ≡ old
  plane_short h = rw (lt-leb (size_of n) (length old) h)

  pub plane_heavy : size_of n ≤ length old → is_light ws n covers part ≡ false → painted_plane ws n rule covers part old ≡ old
  plane_heavy h e = rw (le-leb (size_of n) (length old) h, e)

  pub plane_painted : size_of n ≤ length old → is_light ws n covers part ≡ true → painted_plane ws n rule covers part old ≡ over (plane_of ws n rule (cover_at covers) part) old
  plane_painted h e = rw (le-leb (size_of n) (length old) h, e)

-- ---- at height 16, with the mark

pub is_painted : {mark : ℕ} (r : Result ℕ Refusal) → given_or_refused r ≡ given mark → IsOk r
is_painted (Ok mark) e = refl
is_painted (Err refusal) e = cc

module _ {ws : List ℕ} {rule : FillRule} {covers : List ℤ} {part : List ℕ} {old : List Float} where
  pub paint_short : length old < 256 → Painting ws rule covers part old (Err Room) old
  paint_short h = record { answer = sym (part_short ws 16 covers part old (mark_of (part_plane ws rule covers part)) h); plane_is = sym (plane_short ws 16 rule covers part old h) }

  pub paint_heavy : 256 ≤ length old → is_light ws 16 covers part ≡ false → Painting ws rule covers part old (Err Covers) old
  paint_heavy h e = record { answer = sym (part_heavy ws 16 covers part old (mark_of (part_plane ws rule covers part)) h e); plane_is = sym (plane_heavy ws 16 rule covers part old h e) }

  pub paint_done : {new : List Float} {mark : ℕ} → 256 ≤ length old → is_light ws 16 covers part ≡ true → new ≡ over (part_plane ws rule covers part) old → mark ≡ mark_of (part_plane ws rule covers part)
      → Painting ws rule covers part old (Ok mark) new
  paint_done {new} {mark} h e p m = record { answer = ap given m ∙ sym (part_given ws 16 covers part old (mark_of (part_plane ws rule covers part)) h e); plane_is = p ∙ sym (plane_painted ws 16 rule covers part old h e) }

  -- where nothing refuses it, the answer is the mark, and the plane holds the coverages
  module _ {r : Result ℕ Refusal} {new : List Float} (p : Painting ws rule covers part old r new) (h : 256 ≤ length old) (e : is_light ws 16 covers part ≡ true) where
    pub paint_answer : given_or_refused r ≡ given (mark_of (part_plane ws rule covers part))
    paint_answer = p.answer ∙ part_given ws 16 covers part old (mark_of (part_plane ws rule covers part)) h e

    pub paint_ok : IsOk r
    paint_ok = is_painted r paint_answer

    pub paint_plane : new ≡ over (part_plane ws rule covers part) old
    paint_plane = p.plane_is ∙ plane_painted ws 16 rule covers part old h e
