-- `range::lowest_cover` meets its contract. Assumes nothing.
use Rattle.laws.proofs.Prelude.{lit<}
use Rattle.pixel_segment.proofs.range.lowest_cover.Goals as goal

pub overflow_sub-result : goal.overflow_sub-result
overflow_sub-result c = rw c.size-half.ensures (record { sfits = lit< tt })

pub returns : goal.returns
returns c = rw c.size-half.ensures
