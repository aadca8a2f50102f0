-- `PixelSegment::double_area` meets its contract. The cover is small at 8 bits and at 16, so each read gives the cover itself.
-- Assumes nothing.
use Rattle.laws.proofs.Prelude.{◌∙◌, arith, w16, SFits, to_z-of_z, to_z_pos, sfits_widen}
use Rattle.pixel_segment.specs.Field.{cpu, cover_of, multiplier_of, double_area_of}
use Rattle.pixel_segment.proofs.Widths.{cover_fits, area_fits}
use Rattle.pixel_segment.proofs.PixelSegment.double_area.Goals as goal

pub overflow_cast-result-2 : goal.overflow_cast-result-2
overflow_cast-result-2 c =
    let w = c.args.self.0 in
    rw (c.cover.ensures, to_z-of_z (cover_fits w)) (sfits_widen tt (cover_fits w))

pub overflow_mul-result : goal.overflow_mul-result
unfolding double_area_of
overflow_mul-result c = let w = c.args.self.0 in
    let h : SFits w16 (cover_of cpu w) = sfits_widen tt (cover_fits w) in
    rw
    (c.cover.ensures, c.double_area_multiplier.ensures, to_z_pos w16 {n = multiplier_of cpu w} (omega arith), to_z-of_z (cover_fits w), to_z-of_z h)
    (area_fits w)

pub returns : goal.returns
unfolding double_area_of
returns c = let w = c.args.self.0 in
    let h : SFits w16 (cover_of cpu w) = sfits_widen tt (cover_fits w) in
    to_z-of_z (overflow_mul-result c)
    ∙ rw
    (c.cover.ensures, c.double_area_multiplier.ensures, to_z_pos w16 {n = multiplier_of cpu w} (omega arith), to_z-of_z (cover_fits w), to_z-of_z h)
