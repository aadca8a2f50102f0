-- `trivial_clip_steps::draw` meets its contract. Assumes nothing.
use Rattle.pass_statements.proofs.Steps.{draws_clipped, draws_unclipped}
use Rattle.trivial_clip_steps.proofs.draw.Goals as goal

pub returns-then-clipped : goal.returns-then-clipped
returns-then-clipped c = let a = c.args in draws_clipped a.cur a.id c.if-clipped.true c.draw_clipped.ensures

pub returns-else-clipped : goal.returns-else-clipped
returns-else-clipped c = draws_unclipped _ _ c.if-clipped.false
