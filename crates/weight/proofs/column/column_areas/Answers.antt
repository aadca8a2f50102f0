-- `weight::column::column_areas` meets its contract. Assumes nothing.
use Rattle.std.specs.Prelude.{◌^◌, ◌<◌, ◌*ℤ◌}
use Rattle.laws.proofs.Prelude.{arith, sfits_of, ℤ, pos, mag, to_z-of_z, sfits_widen, w8, w16, SFits}
use Rattle.laws.proofs.Prelude.{sfits, within, kept, times}
use Rattle.cover_statements.specs.Cover.{cover_at}
use Rattle.cover_statements.proofs.Mapped.{map_next}
use Rattle.weight.proofs.column.column_areas.Goals as goal

-- a row's cover at 16 bits, and 32 times it
wide : (z : ℤ) → mag z < 2 ^ 7 → SFits w16 z
wide z h = sfits_widen {w = w8} tt (sfits_of h)

scaled : (z : ℤ) → mag z < 2 ^ 7 → SFits w16 (pos 32 *ℤ z)
scaled z h = sfits w16 (pos 32 *ℤ z) (omega (arith, times 32 z, within w8 z (sfits_of h)))

pub loop-y-preserved : goal.loop-y-preserved
loop-y-preserved c =
    let z = cover_at c.args.covers.now c.loop-y.y in
    map_next c.loop-y.invariant (pos 0) (omega arith)
    (rw (kept w8 z (omega arith), to_z-of_z (wide z (omega arith)), to_z-of_z (scaled z (omega arith))))
