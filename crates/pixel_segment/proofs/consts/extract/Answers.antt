-- `consts::extract` meets its contract. Assumes nothing.
use Rattle.laws.proofs.Prelude.{arith, pow_pos}
use Rattle.pixel_segment.specs.Field.{widths_of, index_of, width_of}
use Rattle.pixel_segment.proofs.Widths.{shift_lt_of}
use Rattle.pixel_segment.proofs.consts.extract.Goals as goal

pub overflow_shr-result : goal.overflow_shr-result
overflow_shr-result c = omega (arith, shift_lt_of c.args.layout (index_of c.args.field), c.shift.ensures)

pub nonzero_rem-result : goal.nonzero_rem-result
nonzero_rem-result c = rw c.size.ensures (pow_pos (width_of (widths_of c.args.layout) (index_of c.args.field)))

pub returns : goal.returns
returns c = rw (c.size.ensures, c.shift.ensures)
