-- `draw_segment` meets its contract: the laws are those of `Drawing`. Assumes nothing.
use Rattle.load_numbers.proofs.Drawing.{cover_fits, drawn, line_is, state_after_lem}
use Rattle.load_numbers.proofs.segment.draw_segment.Goals as goal

pub overflow_sub-cover : goal.overflow_sub-cover
overflow_sub-cover c = cover_fits c.draw-fourth.result.value

pub returns : goal.returns
returns c =
    let one = drawn c.draw-first.ensures in
    let two = drawn c.draw-second.ensures in
    let three = drawn c.draw-third.ensures in
    let four = drawn c.draw-fourth.ensures in
    (line_is c.args.generator.state c.args.slot one two three four c.requires, state_after_lem c.args.generator.state c.args.slot one two three four)
