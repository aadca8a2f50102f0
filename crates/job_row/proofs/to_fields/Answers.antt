-- `to_fields` meets its contract: the rule on a line keeps each number within its field's type. Assumes nothing.
use Rattle.std.specs.Prelude.{◌≡◌}
use Rattle.laws.proofs.Prelude.{arith, ℤ, nat_abs, w8, w16, w32, SFits, to_z-of_z, plus, minus, kept, sfits, unsigned, whole}
use Rattle.job_lines.specs.declared.segment.SegmentLine.{SegmentLine}
use Rattle.job_lines.proofs.Ranges.{InTile, in_tile}
use Rattle.job_row.proofs.to_fields.Goals as goal

natural : (z : ℤ) → minus z ≡ 0 → nat_abs z ≡ plus z
natural z h = omega (arith, whole z)

fits-x : (s : SegmentLine) → InTile s → SFits w16 s.tile_x
fits-x s h = sfits w16 s.tile_x (record { above = omega (arith, h.tile_x); below = omega (arith, h.tile_x) })

fits-cover : (s : SegmentLine) → InTile s → SFits w8 s.cover
fits-cover s h = sfits w8 s.cover (record { above = omega (arith, h.cover); below = omega (arith, h.cover) })

pub overflow_cast-result : goal.overflow_cast-result
overflow_cast-result c =
    let s = c.args.s in
    let h = in_tile s c.requires in
    rw (kept w32 s.tile_x c.type_inv.s.0.1) (fits-x s h)

pub overflow_cast-result-2 : goal.overflow_cast-result-2
overflow_cast-result-2 c =
    let s = c.args.s in
    let h = in_tile s c.requires in
    rw (kept w32 s.layer c.type_inv.s.1.0.1) (unsigned w32 s.layer h.layer.0 (omega (arith, h.layer)))

pub overflow_cast-result-3 : goal.overflow_cast-result-3
overflow_cast-result-3 c =
    let s = c.args.s in
    let h = in_tile s c.requires in
    rw (kept w32 s.x c.type_inv.s.1.1.0.1) (unsigned w8 s.x h.x.0 (omega (arith, h.x)))

pub overflow_cast-result-4 : goal.overflow_cast-result-4
overflow_cast-result-4 c =
    let s = c.args.s in
    let h = in_tile s c.requires in
    rw (kept w32 s.y c.type_inv.s.1.1.1.0.1) (unsigned w8 s.y h.y.0 (omega (arith, h.y)))

pub overflow_cast-result-5 : goal.overflow_cast-result-5
overflow_cast-result-5 c =
    let s = c.args.s in
    let h = in_tile s c.requires in
    rw (kept w32 s.rows c.type_inv.s.1.1.1.1.0.1) (unsigned w8 s.rows h.rows.0 (omega (arith, h.rows)))

pub overflow_cast-result-6 : goal.overflow_cast-result-6
overflow_cast-result-6 c =
    let s = c.args.s in
    let h = in_tile s c.requires in
    rw (kept w32 s.mult c.type_inv.s.1.1.1.1.1.0.1) (unsigned w8 s.mult h.mult.0 (omega (arith, h.mult)))

pub overflow_cast-result-7 : goal.overflow_cast-result-7
overflow_cast-result-7 c =
    let s = c.args.s in
    let h = in_tile s c.requires in
    rw (kept w32 s.cover (omega arith)) (fits-cover s h)

pub returns : goal.returns
returns c =
    let s = c.args.s in
    let h = in_tile s c.requires in
    rw (kept w32 s.tile_x (omega arith), kept w32 s.layer (omega arith), kept w32 s.x (omega arith), kept w32 s.y (omega arith), kept w32 s.rows (omega arith), kept w32 s.mult (omega arith), kept w32 s.cover (omega arith), to_z-of_z (fits-x s h), to_z-of_z (fits-cover s h), natural s.layer h.layer.0, natural s.x h.x.0, natural s.y h.y.0, natural s.rows h.rows.0, natural s.mult h.mult.0)
