-- `plane::area::area_of` meets its contract. Assumes nothing.
use Rattle.laws.proofs.Prelude.{◌∙◌, arith, w16, to_z-of_z, to_z_pos}
use Rattle.pixel_segment.specs.Field.{cpu, multiplier_of, double_area_of}
use Rattle.pixel_segment.proofs.Widths.{area_fits}
use Rattle.plane.proofs.area.area_of.Goals as goal

pub overflow_mul-result : goal.overflow_mul-result
unfolding double_area_of
overflow_mul-result c = let w = c.args.segment.0 in
    rw
    (c.double_area_multiplier.ensures, to_z_pos w16 {n = multiplier_of cpu w} (omega arith), to_z-of_z c.ranges.cover, c.requires)
    (area_fits w)

pub returns : goal.returns
unfolding double_area_of
returns c = let w = c.args.segment.0 in
    to_z-of_z (overflow_mul-result c)
    ∙ rw
    (c.double_area_multiplier.ensures, to_z_pos w16 {n = multiplier_of cpu w} (omega arith), to_z-of_z c.ranges.cover, c.requires)
