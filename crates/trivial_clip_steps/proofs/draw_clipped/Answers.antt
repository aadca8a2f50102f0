-- `trivial_clip_steps::draw_clipped` meets its contract. Assumes nothing.
use Rattle.pass_statements.proofs.Steps.{no_clip, outside, inside}
use Rattle.trivial_clip_steps.proofs.draw_clipped.Goals as goal

pub returns-then-k-id : goal.returns-then-k-id
returns-then-k-id c = outside c.in-Some.is c.if-k-id.true

pub returns-in-None : goal.returns-in-None
returns-in-None c = no_clip _ c.in-None.is

pub returns-else-k-id : goal.returns-else-k-id
returns-else-k-id c = inside c.in-Some.is c.if-k-id.false
