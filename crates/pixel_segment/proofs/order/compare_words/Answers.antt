-- `order::compare_words` meets its contract. Assumes nothing.
use Rattle.std.specs.Prelude.{◌<◌}
use Rattle.laws.proofs.Prelude.{arith}
use Rattle.pixel_segment.proofs.Widths.{shift_lt_of}
use Rattle.pixel_segment.proofs.order.compare_words.Goals as goal
use Rattle.pixel_segment.proofs.order.compare_words.Goals.{After-shift-offset}

-- the bits below the key are fewer than 64
below : (c : After-shift-offset) → c.shift-offset.result < 64
below c = rw c.shift-offset.ensures (shift_lt_of c.args.layout 2)

pub returns : goal.returns
returns c = rw (c.compare.ensures, c.shift-offset.ensures)

pub overflow_cast-offset : goal.overflow_cast-offset
overflow_cast-offset c = omega (arith, below c)

pub overflow_shr-word : goal.overflow_shr-word
overflow_shr-word c = below c

pub overflow_cast-offset-2 : goal.overflow_cast-offset-2
overflow_cast-offset-2 c = omega (arith, below c)

pub overflow_shr-other : goal.overflow_shr-other
overflow_shr-other c = below c
