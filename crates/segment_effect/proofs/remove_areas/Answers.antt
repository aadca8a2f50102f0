-- `remove_areas` meets its contract. Assumes nothing.
use Rattle.std.specs.Prelude.{◌*ℤ◌}
use Rattle.laws.proofs.Prelude.{◌∙◌, arith, pos, neg_ℤ, +ℤ_idl, to_z-of_z, w16, kept, whole, times}
use Rattle.pixel_segment.specs.Field.{cpu, cover_of, double_area_of}
use Rattle.pixel_segment.proofs.Widths.{in_cover, area_le}
use Rattle.segment_set_statements.proofs.Spreading.{spread_is}
use Rattle.segment_set_statements.proofs.Wrapping.{opposite_fits}
use Rattle.segment_effect.proofs.remove_areas.Goals as goal
use Rattle.segment_effect.proofs.remove_areas.Goals.{After-double_area, After-past_cover}

pub overflow_sub-double_area : goal.overflow_sub-double_area
overflow_sub-double_area c =
    let w = c.args.word in
    rw (kept w16 c.double_area.result c.double_area.type_inv, c.double_area.ensures)
    (opposite_fits w16 (double_area_of cpu w) (omega (arith, area_le w)))

pub overflow_sub-past_cover : goal.overflow_sub-past_cover
overflow_sub-past_cover c =
    let w = c.args.word in
    rw (kept w16 c.past_cover.result c.past_cover.type_inv, c.past_cover.ensures)
    (opposite_fits w16 (pos 32 *ℤ cover_of cpu w) (omega (arith, times 32 (cover_of cpu w), whole (pos 32 *ℤ cover_of cpu w), in_cover w)))

pub returns : goal.returns
returns c =
    rw (
      to_z-of_z (overflow_sub-double_area (goal.at.returns c).After-double_area),
      to_z-of_z (overflow_sub-past_cover (goal.at.returns c).After-past_cover),
      kept w16 c.past_cover.result c.past_cover.type_inv,
      kept w16 c.double_area.result c.double_area.type_inv,
      c.past_cover.ensures,
      c.double_area.ensures,
      +ℤ_idl (neg_ℤ (double_area_of cpu c.args.word)),
      +ℤ_idl (neg_ℤ (pos 32 *ℤ cover_of cpu c.args.word)),
      c.local_y-y.ensures,
      c.local_x-x.ensures,
    ) at c.spread.ensures
    ∙ spread_is neg_ℤ cpu 16 c.args.word c.args.areas.now
