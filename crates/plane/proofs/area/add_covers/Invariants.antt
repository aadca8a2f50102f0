use Rattle.std.specs.Prelude.{◌≤◌}
use Rattle.laws.proofs.Prelude.{List, ℕ, ℤ, pos, replicate}
use Rattle.cover_statements.specs.InnerCell.{Shaded}
use Rattle.plane.proofs.area.add_covers.Given as goal

-- areas of no matter, shaded beside
abbrev pub none : List ℤ
none = replicate 256 (pos 0)

pub record Raised (column y : ℕ) (covers sums next : List ℤ) : Type 0 where
  pub reached : y ≤ 16
  pub areas : List ℤ
  pub shaded : Shaded 16 column y none covers sums areas next

abbrev pub invariant-loop-y : goal.invariant-loop-y
invariant-loop-y l = Raised l.column l.y l.covers l.sums l.next
