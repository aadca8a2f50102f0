-- Painting a part: its 256 coverages written into a lent plane, and their mark. Refused by 1 where the plane is below 256 numbers, then by 9.
use Rattle.refusals.specs.Refusal.{number_of, given_or_refused}
use Rattle.refusals.specs.declared.Refusal.{Refusal}
use Rattle.std.specs.Prelude.{◌&&◌, ◌≡◌, Result, Ok, Err}
use Rattle.laws.specs.Prelude.{cond, List, ℕ, leb, ltb, Float, ℤ, length, Answer, refused, given, over}
use Rattle.styling.specs.declared.FillRule.{FillRule}
use Rattle.cover_statements.specs.Carry.{is_light}
use Rattle.cover_statements.specs.Cover.{cover_at}
use Rattle.cover_statements.specs.Mark.{mark_of}
use Rattle.cover_statements.specs.Plane.{size_of, plane_of}

-- the coverages of a part, from an incoming cover
abbrev pub part_plane : List ℕ → FillRule → List ℤ → List ℕ → List Float
part_plane ws rule covers part = plane_of ws 16 rule (cover_at covers) part

-- of a tile n high: the lowest refusal that applies, or what is given
abbrev pub judged_part : {A : Type 0} → List ℕ → ℕ → List ℤ → List ℕ → List Float → A → Answer A
judged_part ws n covers part old a =
    cond (ltb (length old) (size_of n)) (refused 1)
    (cond (is_light ws n covers part) (given a)
    (refused 9))

-- a refusal leaves the plane as it was; else what lies past its numbers stays
abbrev pub painted_plane : List ℕ → ℕ → FillRule → List ℤ → List ℕ → List Float → List Float
painted_plane ws n rule covers part old = cond (leb (size_of n) (length old) && is_light ws n covers part) (over (plane_of ws n rule (cover_at covers) part) old) old

-- the lowest refusal that applies, or the mark
abbrev pub part_answer : List ℕ → FillRule → List ℤ → List ℕ → List Float → Answer ℕ
part_answer ws rule covers part old = judged_part ws 16 covers part old (mark_of (part_plane ws rule covers part))

pub record Painting (ws : List ℕ) (rule : FillRule) (covers : List ℤ) (part : List ℕ) (old : List Float) (r : Result ℕ Refusal) (new : List Float) : Type 0 where
  pub answer : given_or_refused r ≡ part_answer ws rule covers part old
  pub plane_is : new ≡ painted_plane ws 16 rule covers part old
