-- `add_areas` meets its contract. Assumes nothing.
use Rattle.laws.proofs.Prelude.{◌∙◌, ℤ, w16, kept}
use Rattle.pixel_segment.specs.Field.{cpu}
use Rattle.segment_set_statements.proofs.Spreading.{spread_is}
use Rattle.segment_effect.proofs.add_areas.Goals as goal

pub returns : goal.returns
returns c =
    rw (
      kept w16 c.past_cover.result c.past_cover.type_inv,
      kept w16 c.double_area.result c.double_area.type_inv,
      c.past_cover.ensures,
      c.double_area.ensures,
      c.local_y-y.ensures,
      c.local_x-x.ensures,
    ) at c.spread.ensures
    ∙ spread_is (λ (z : ℤ). z) cpu 16 c.args.word c.args.areas.now
