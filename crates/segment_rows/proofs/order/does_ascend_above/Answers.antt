-- `order::does_ascend_above` meets its contract. What holds after so many words is `Counted`. Assumes nothing.
use Rattle.std.specs.Prelude.{◌≡◌, ◌+◌, ◌-◌, ◌*◌, ◌/◌, ◌%◌, ◌^◌, ◌≤◌, ◌<◌}
use Rattle.laws.proofs.Prelude.{refl, ℕ, arith, get_or, pow_mono}
use lib.Pow.{shr_lt}
use Rattle.pixel_segment.proofs.Widths.{shifted}
use Rattle.segment_rows.proofs.Ascending.{Counted, counted_next, counted_end}
use Rattle.segment_rows.proofs.order.does_ascend_above.Invariants.{bound}
use Rattle.segment_rows.proofs.order.does_ascend_above.Goals as goal
use Rattle.segment_rows.proofs.order.does_ascend_above.Goals.{In-loop-word}

bound-le : (offset : ℕ) → 0 < offset → bound offset ≤ 2 ^ 63
bound-le offset h = pow_mono {j = 63} (omega arith)

is_bound : (offset : ℕ) → 0 < offset → (1 * 2 ^ (64 - offset)) % 2 ^ 64 ≡ bound offset
is_bound offset h = shifted (64 - offset) (omega arith)

-- what a turn knows of the offset, the key and the key before
record Known (offset previous key : ℕ) : Type 0 where
  is : (1 * 2 ^ (64 - offset)) % 2 ^ 64 ≡ bound offset
  most : bound offset ≤ 2 ^ 63
  before : previous < bound offset
  small : key < bound offset

known : (c : In-loop-word) → Known c.args.offset c.loop-word.previous (get_or c.args.row.now c.loop-word.word-index 0 / 2 ^ c.args.offset)
known c =
    let offset = c.args.offset in
    let e : 64 - offset + offset ≡ 64 = omega arith in
    record {
      is = is_bound offset c.requires.0;
      most = bound-le offset c.requires.0;
      before = c.loop-word.invariant.small;
      small = shr_lt (64 - offset) offset (rw e (c.type_inv.row c.loop-word.word-index).fits);
    }

-- the count of descents, one word further
again : (c : In-loop-word) → let limit = bound c.args.offset in
    let s = c.loop-word in
    let key = get_or c.args.row.now s.word-index 0 / 2 ^ c.args.offset in
    Counted (λ w. w / 2 ^ c.args.offset) limit c.args.row.now (s.descents + (s.previous + (limit - 1) - key) / limit) key (s.word-index + 1)
again c =
    counted_next (λ w. w / 2 ^ c.args.offset) _ c.loop-word.invariant c.loop-word-test.true refl (known c).small

pub overflow_sub-descents : goal.overflow_sub-descents
overflow_sub-descents c = let k = known (goal.at.overflow_sub-descents c).In-loop-word in rw k.is (omega (arith, k.small))

pub loop-word-preserved : goal.loop-word-preserved
loop-word-preserved c = let t = (goal.at.loop-word-preserved c).In-loop-word in rw (known t).is (again t)

pub returns : goal.returns
returns c = counted_end _ c.loop-word.invariant (omega arith)
