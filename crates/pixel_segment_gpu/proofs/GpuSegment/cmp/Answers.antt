-- `GpuSegment::cmp` meets its contract: that of the function over the layout. Assumes nothing.
use Rattle.pixel_segment_gpu.proofs.GpuSegment.cmp.Goals as goal

pub returns : goal.returns
returns c = c.compare_words.ensures
