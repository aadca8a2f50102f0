-- `add_cover` meets its contract. Assumes nothing.
use Rattle.segment_set_statements.proofs.Wrapping.{wrapped_8}
use Rattle.segment_effect.proofs.add_cover.Goals as goal

pub returns : goal.returns
returns c = wrapped_8 c.args.a c.args.b c.ranges.a c.ranges.b
