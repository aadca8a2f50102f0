-- `add_area` meets its contract. Assumes nothing.
use Rattle.segment_set_statements.proofs.Wrapping.{wrapped_16}
use Rattle.segment_effect.proofs.add_area.Goals as goal

pub returns : goal.returns
returns c = wrapped_16 c.args.a c.args.b c.ranges.a c.ranges.b
