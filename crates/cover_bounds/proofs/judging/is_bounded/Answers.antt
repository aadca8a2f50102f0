-- `judging::is_bounded` meets its contract. Assumes nothing.
use Rattle.laws.proofs.Prelude.{to_z-of_z}
use Rattle.cover_bounds.proofs.judging.is_bounded.Goals as goal

pub returns : goal.returns
returns c =
    rw (
      rw (to_z-of_z c.ranges.low) at c.is_cover.ensures,
      rw (to_z-of_z c.ranges.high) at c.is_cover-2.ensures,
      rw (to_z-of_z c.ranges.low, to_z-of_z c.ranges.high) at c.is_at_most.ensures,
    )
