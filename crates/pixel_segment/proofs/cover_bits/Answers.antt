-- `cover_bits` meets its contract. 256 is a multiple of 64, and with it no cover is negative. Assumes nothing.
-- the cover's range, and the sum's parts
use Rattle.std.specs.Prelude.{◌%◌, ◌+ℤ◌}
use Rattle.laws.proofs.Prelude.{ap, ℕ, arith, lit<, pos, w8, w16, w64, SFits, to_z-of_z, sfits_widen, Sum, added, lifted, Within}
use Rattle.laws.proofs.Prelude.{within, sfits, unsigned}
use Rattle.pixel_segment.proofs.cover_bits.Goals as goal
use Rattle.pixel_segment.proofs.cover_bits.Goals.{Start}

known : (c : Start) → Within w8 c.args.cover × Sum c.args.cover (pos 256) (c.args.cover +ℤ pos 256)
known c = (within w8 c.args.cover c.ranges.cover, added c.args.cover (pos 256))

raised : (c : Start) → SFits w16 (c.args.cover +ℤ pos 256)
raised c = sfits w16 (c.args.cover +ℤ pos 256) (omega (arith, known c))

pub overflow_cast-result : goal.overflow_cast-result
overflow_cast-result c = rw (to_z-of_z c.ranges.cover) (sfits_widen tt c.ranges.cover)

pub overflow_add-result : goal.overflow_add-result
overflow_add-result c =
    let h : SFits w16 c.args.cover = sfits_widen tt c.ranges.cover in
    rw (to_z-of_z c.ranges.cover, to_z-of_z h) (raised c)

pub overflow_cast-result-2 : goal.overflow_cast-result-2
overflow_cast-result-2 c =
    let h : SFits w16 c.args.cover = sfits_widen tt c.ranges.cover in
    rw (to_z-of_z c.ranges.cover, to_z-of_z h, to_z-of_z (raised c)) (unsigned w64 (c.args.cover +ℤ pos 256) (omega (arith, known c)) (omega (arith, known c)))

pub nonzero_rem-result : goal.nonzero_rem-result
nonzero_rem-result c = rw c.size.ensures (lit< tt)

pub returns : goal.returns
returns c =
    let h : SFits w16 c.args.cover = sfits_widen tt c.ranges.cover in
    rw (c.size.ensures, to_z-of_z c.ranges.cover, to_z-of_z h, to_z-of_z (raised (goal.at.returns c).Start)) (rw (lifted 64 c.args.cover 4 (lit< tt) (omega (arith, known (goal.at.returns c).Start))) (ap (λ (n : ℕ). n % 64) (omega (arith, known (goal.at.returns c).Start))))
