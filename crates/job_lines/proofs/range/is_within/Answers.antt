-- `is_within_lem` meets its contract. Assumes nothing.
use Rattle.laws.proofs.Prelude.{to_z-of_z, is_within}
use Rattle.job_lines.proofs.range.is_within.Goals as goal

pub returns : goal.returns
unfolding is_within
returns c = rw (to_z-of_z c.ranges.low, to_z-of_z c.ranges.v, to_z-of_z c.ranges.high)
