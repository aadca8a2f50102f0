-- `judging::is_cover` meets its contract. Assumes nothing.
use Rattle.laws.proofs.Prelude.{to_z-of_z, is_within}
use Rattle.cover_bounds.proofs.judging.is_cover.Goals as goal

pub returns : goal.returns
unfolding is_within
returns c = rw (to_z-of_z c.ranges.v)
