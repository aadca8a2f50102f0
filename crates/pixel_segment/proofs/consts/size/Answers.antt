-- `consts::size` meets its contract. Assumes nothing.
use Rattle.laws.proofs.Prelude.{arith}
use Rattle.pixel_segment.specs.Field.{widths_of, width_of, index_of}
use Rattle.pixel_segment.proofs.Widths.{width_le_of, shifted, index_lt}
use Rattle.pixel_segment.proofs.consts.size.Goals as goal

pub width-requires : goal.width-requires
width-requires c = omega (arith, index_lt c.args.field, c.index.ensures)

pub overflow_shl-result : goal.overflow_shl-result
overflow_shl-result c = omega (arith, c.width.ensures, width_le_of c.args.layout c.index.result)

pub returns : goal.returns
returns c =
    let k = index_of c.args.field in
    rw (c.width.ensures, c.index.ensures) (shifted (width_of (widths_of c.args.layout) k) (omega (arith, width_le_of c.args.layout k)))
