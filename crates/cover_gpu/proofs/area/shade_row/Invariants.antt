use Rattle.std.specs.Prelude.{◌≡◌, ◌+ℤ◌}
use Rattle.laws.proofs.Prelude.{List, ℕ, ℤ}
use Rattle.pixel_segment.specs.Field.{gpu}
use Rattle.cover_statements.specs.Area.{cover_before}
use Rattle.cover_statements.specs.Cover.{cover_at}
use Rattle.cover_statements.specs.InnerRows.{RowsDone}
use Rattle.cover_gpu.proofs.area.shade_row.Given as goal

-- of every part with these cells; a signed number of a loop is held as bits
abbrev pub invariant-loop-x : goal.invariant-loop-x
invariant-loop-x l =
    (cs : List ℤ) (part : List ℕ) → cover_at cs l.y ≡ l.cover → RowsDone gpu 4 cs part l.covers l.y 0 l.initial.areas → RowsDone gpu 4 cs part l.covers l.y l.x l.areas × (l.sum ≡ l.cover +ℤ cover_before gpu l.x l.y part)
