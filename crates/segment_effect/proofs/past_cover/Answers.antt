-- `past_cover` meets its contract. Assumes nothing.
use Rattle.std.specs.Prelude.{◌*ℤ◌}
use Rattle.laws.proofs.Prelude.{arith, pos, to_z-of_z, sfits_widen, w8, w16, SFits, small, kept, whole, times}
use Rattle.pixel_segment.specs.Field.{cpu, cover_of}
use Rattle.pixel_segment.proofs.Widths.{in_cover, cover_fits}
use Rattle.segment_effect.proofs.past_cover.Goals as goal
use Rattle.segment_effect.proofs.past_cover.Goals.{After-cover}

wide : (c : After-cover) → SFits w16 (cover_of cpu c.args.segment.0)
wide c = sfits_widen tt (cover_fits c.args.segment.0)

fits : (c : After-cover) → SFits w16 (pos 32 *ℤ cover_of cpu c.args.segment.0)
fits c =
    let w = c.args.segment.0 in
    small w16 (pos 32 *ℤ cover_of cpu w) (omega (arith, times 32 (cover_of cpu w), whole (pos 32 *ℤ cover_of cpu w), in_cover w))

pub overflow_cast-result : goal.overflow_cast-result
overflow_cast-result c = rw (kept w8 c.cover.result c.cover.type_inv, c.cover.ensures) (wide c)

pub overflow_mul-result : goal.overflow_mul-result
overflow_mul-result c = rw (kept w8 c.cover.result c.cover.type_inv, c.cover.ensures, to_z-of_z (wide c)) (fits c)

pub returns : goal.returns
returns c = rw (kept w8 c.cover.result c.cover.type_inv, c.cover.ensures, to_z-of_z (wide c), to_z-of_z (fits c))
