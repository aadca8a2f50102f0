-- `consts::append` meets its contract. Assumes nothing.
-- the word with the field below it is within 64 bits
use Rattle.std.specs.Prelude.{◌<◌, ◌+◌, ◌*◌, ◌^◌, ◌%◌}
use Rattle.laws.proofs.Prelude.{ℕ, mod-lt, arith, pow_pos}
use Rattle.pixel_segment.specs.Field.{widths_of, index_of, width_of}
use Rattle.pixel_segment.proofs.Widths.{width_le_of, joined_lt}
use Rattle.pixel_segment.proofs.consts.append.Goals as goal
use Rattle.pixel_segment.proofs.consts.append.Goals.{After-size-n}

abbrev bits : After-size-n → ℕ
bits c = width_of (widths_of c.args.layout) (index_of c.args.field)

whole : (c : After-size-n) → c.args.word * 2 ^ bits c + c.args.value % 2 ^ bits c < 2 ^ 64
whole c =
    let k = bits c in
    let small = width_le_of c.args.layout (index_of c.args.field) in
    joined_lt k (omega (arith, small)) c.requires (mod-lt c.args.value (pow_pos k))

pub overflow_mul-result : goal.overflow_mul-result
overflow_mul-result c = let h = whole c in rw c.size-n.ensures (omega arith)

pub nonzero_rem-result : goal.nonzero_rem-result
nonzero_rem-result c = rw c.size-n.ensures (pow_pos (bits c))

pub overflow_add-result : goal.overflow_add-result
overflow_add-result c = let h = whole c in rw c.size-n.ensures (omega arith)

pub returns : goal.returns
returns c = rw c.size-n.ensures
