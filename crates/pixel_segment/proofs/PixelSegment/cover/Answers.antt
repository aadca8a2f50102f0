-- `PixelSegment::cover` meets its contract. The word plus half the field's size, modulo its size, is a small number, so the machine's
-- difference is the definition's. Assumes nothing.
use Rattle.std.specs.Prelude.{◌≡◌, ◌+◌, ◌%◌}
use Rattle.laws.proofs.Prelude.{◌∙◌, arith, sub_ℕ, w8, to_z_pos, to_z-of_z, difference, sfits}
use Rattle.pixel_segment.specs.Field.{cpu, field_of, cover_of}
use Rattle.pixel_segment.proofs.PixelSegment.cover.Goals as goal
use Rattle.pixel_segment.proofs.PixelSegment.cover.Goals.{After-wrapping_add_u64}

-- the remainder by 64 of the sum is that of the field's sum
rest : (c : After-wrapping_add_u64) → c.wrapping_add_u64.result % 64 ≡ (field_of cpu 6 c.args.self.0 + 32) % 64
rest c = omega (arith, rw c.size-n.ensures at c.wrapping_add_u64.ensures)

pub overflow_cast-result : goal.overflow_cast-result
overflow_cast-result c = rw c.size-n.ensures (omega arith)

pub overflow_sub-result : goal.overflow_sub-result
overflow_sub-result c =
    let n = c.wrapping_add_u64.result % 64 in
    rw (c.size-n.ensures, to_z_pos w8 {n = n} (omega arith))
    (sfits w8 (sub_ℕ n 32) (omega (arith, difference n 32)))

pub returns : goal.returns
unfolding cover_of
returns c =
    let n = c.wrapping_add_u64.result % 64 in
    to_z-of_z (overflow_sub-result c)
    ∙ rw (c.size-n.ensures, to_z_pos w8 {n = n} (omega arith), rest c)
