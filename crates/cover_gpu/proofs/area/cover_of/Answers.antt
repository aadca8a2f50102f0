-- `cover_gpu::area::cover_of` meets its contract: both layouts have the cover in the lowest six bits. Assumes nothing.
use Rattle.laws.proofs.Prelude.{◌∙◌, w16, kept}
use Rattle.pixel_segment.specs.Field.{cover_of}
use Rattle.cover_gpu.proofs.area.cover_of.Goals as goal

pub returns : goal.returns
unfolding cover_of
returns c = kept w16 c.cover_of.result c.cover_of.type_inv ∙ c.cover_of.ensures
