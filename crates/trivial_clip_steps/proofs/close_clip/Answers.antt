-- `trivial_clip_steps::close_clip` meets its contract. Assumes nothing.
use Rattle.pass_statements.proofs.Steps.{stays_none, ends, goes_on}
use Rattle.trivial_clip_steps.proofs.close_clip.Goals as goal

pub returns-then-k-id : goal.returns-then-k-id
returns-then-k-id c = ends c.in-Some.is c.if-k-id.true

pub returns-in-None : goal.returns-in-None
returns-in-None c = stays_none _ c.in-None.is

pub returns-else-k-id : goal.returns-else-k-id
returns-else-k-id c = goes_on c.in-Some.is c.if-k-id.false
