-- `GpuSegment::double_area` meets its contract. Assumes nothing.
use Rattle.laws.proofs.Prelude.{◌∙◌, w16, kept}
use Rattle.pixel_segment_gpu.proofs.Widths.{double_area_same}
use Rattle.pixel_segment_gpu.proofs.GpuSegment.double_area.Goals as goal

pub returns : goal.returns
returns c = kept w16 c.double_area.result c.double_area.type_inv ∙ c.double_area.ensures ∙ double_area_same c.args.self.0
