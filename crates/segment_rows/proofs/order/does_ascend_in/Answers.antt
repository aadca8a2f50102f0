-- `order::does_ascend_in` meets its contract. Assumes nothing.
use Rattle.pixel_segment.proofs.Widths.{key_above, shift_lt_of}
use Rattle.segment_rows.proofs.order.does_ascend_in.Goals as goal

pub does_ascend_above-requires : goal.does_ascend_above-requires
does_ascend_above-requires c = let l = c.args.layout in (rw c.shift.ensures (key_above l), rw c.shift.ensures (shift_lt_of l 2))

pub returns : goal.returns
returns c = rw (c.does_ascend_above.ensures, c.shift.ensures)
