-- `order::is_row` meets its contract: that of the function over the layout. Assumes nothing.
use Rattle.pixel_segment_gpu.proofs.order.is_row.Goals as goal

pub returns : goal.returns
returns c = c.is_row_in.ensures
