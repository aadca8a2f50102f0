-- `print_segments` meets its contract. The invariant is `Making`: the lines so far, and the generator after their draws.
-- Assumes nothing.
use Rattle.laws.proofs.Prelude.{arith}
use Rattle.load_statements.proofs.Fields.{slot_small}
use Rattle.load_text.proofs.Printing.{make, make_next, segments_printed}
use Rattle.load_text.proofs.blocks.print_segments.Goals as goal

pub loop-k-init : goal.loop-k-init
loop-k-init c = make _

pub draw_segment-drawn-requires : goal.draw_segment-drawn-requires
draw_segment-drawn-requires c =
    rw c.slot_of-slot.ensures (slot_small _ c.requires.0 _ (omega arith))

pub loop-k-preserved : goal.loop-k-preserved
loop-k-preserved c =
    make_next c.requires.0 c.loop-k.invariant (omega arith) c.slot_of-slot.ensures c.draw_segment-drawn.ensures.0 c.draw_segment-drawn.ensures.1 c.print_line-end.auto.out c.print_line-end.ensures.0

pub returns : goal.returns
returns c = segments_printed c.print_bytes-end.ensures c.loop-k.invariant (omega arith)
