-- `range::is_held` meets its contract: no field has more than 2^21 numbers. Assumes nothing.
use Rattle.laws.proofs.Prelude.{arith, to_z-of_z}
use Rattle.pixel_segment.specs.Field.{index_of}
use Rattle.pixel_segment.proofs.Widths.{size_le_of}
use Rattle.pixel_segment.proofs.range.is_held.Goals as goal

pub is_among-requires : goal.is_among-requires
is_among-requires c =
    let small = size_le_of c.args.layout (index_of c.args.field) in
    (rw (to_z-of_z c.ranges.low) c.requires, omega (arith, c.size.ensures, small))

pub returns : goal.returns
returns c =
    rw (c.is_among.ensures, to_z-of_z c.ranges.low, to_z-of_z c.ranges.v, c.size.ensures)
