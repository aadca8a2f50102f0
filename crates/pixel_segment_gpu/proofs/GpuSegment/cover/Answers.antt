-- `GpuSegment::cover` meets its contract. Assumes nothing.
use Rattle.laws.proofs.Prelude.{◌∙◌, w8, kept}
use Rattle.pixel_segment_gpu.proofs.Widths.{cover_same}
use Rattle.pixel_segment_gpu.proofs.GpuSegment.cover.Goals as goal

pub returns : goal.returns
returns c = kept w8 c.cover.result c.cover.type_inv ∙ c.cover.ensures ∙ cover_same c.args.self.0
