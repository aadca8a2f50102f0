-- A plane after a part was painted.
use Rattle.std.specs.Prelude.{◌&&◌}
use Rattle.laws.specs.Prelude.{cond, List, ℕ, leb, ℤ, Float, length, over}
use Rattle.styling.specs.declared.FillRule.{FillRule}
use Rattle.cover_statements.specs.Carry.{is_light}
use Rattle.cover_statements.specs.Paint.{part_plane}
use Rattle.cover_statements.specs.Plane.{size_of}

-- a refusal leaves the plane as it was; else what lies past the 256 numbers stays
abbrev pub plane_after : List ℕ → FillRule → List ℤ → List ℕ → List Float → List Float
plane_after ws rule covers part old = cond (leb (size_of 16) (length old) && is_light ws 16 covers part) (over (part_plane ws rule covers part) old) old
