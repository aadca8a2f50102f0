-- `area::double_area` meets its contract: a multiplier is at most 63 and a byte at most 128. Assumes nothing.
use Rattle.std.specs.Prelude.{◌≤◌, ◌*ℤ◌}
use Rattle.laws.proofs.Prelude.{◌∙◌, mul-le-mul, arith, pos, nat_abs, to_z-of_z, to_z_pos, sfits_widen, w8, w16, SFits, small, within}
use Rattle.laws.proofs.Prelude.{whole, abs_times}
use Rattle.pixel_segment.specs.Field.{cpu, multiplier_of}
use Rattle.cover_bounds.proofs.area.double_area.Goals as goal
use Rattle.cover_bounds.proofs.area.double_area.Goals.{Start}

wide : (s : Start) → SFits w16 s.args.cover
wide s = sfits_widen {w = w8} tt s.ranges.cover

product : (s : Start) → SFits w16 (pos (multiplier_of cpu s.args.segment.0) *ℤ s.args.cover)
product s =
    let m = multiplier_of cpu s.args.segment.0 in
    let v = s.args.cover in
    let h : nat_abs v ≤ 128 = omega (arith, whole v, within w8 v s.ranges.cover) in
    let k : m ≤ 63 = omega arith in
    small w16 (pos m *ℤ v) (omega (arith, abs_times (pos m) v, mul-le-mul {n₁ = m} {m₁ = nat_abs v} {n₂ = 63} {m₂ = 128} k h))

pub overflow_cast-result-2 : goal.overflow_cast-result-2
overflow_cast-result-2 c = rw (to_z-of_z c.ranges.cover) (wide (goal.at.overflow_cast-result-2 c).Start)

pub overflow_mul-result : goal.overflow_mul-result
overflow_mul-result c =
    rw (c.double_area_multiplier.ensures, to_z_pos w16 {n = multiplier_of cpu c.args.segment.0} (omega arith), to_z-of_z c.ranges.cover, to_z-of_z (wide (goal.at.overflow_mul-result c).Start)) (product (goal.at.overflow_mul-result c).Start)

pub returns : goal.returns
returns c =
    to_z-of_z (overflow_mul-result c)
    ∙ rw (c.double_area_multiplier.ensures, to_z_pos w16 {n = multiplier_of cpu c.args.segment.0} (omega arith), to_z-of_z c.ranges.cover, to_z-of_z (wide (goal.at.returns c).Start))
