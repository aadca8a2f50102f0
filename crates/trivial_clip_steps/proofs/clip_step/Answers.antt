-- `trivial_clip_steps::clip_step` meets its contract. Assumes nothing.
use Rattle.pass_statements.proofs.Steps.{composed}
use Rattle.trivial_clip_steps.proofs.clip_step.Goals as goal

pub returns : goal.returns
returns c =
    composed _ _ _ c.open_clip-opened.ensures c.is_clipped.ensures c.draw-drawn.ensures c.close_clip-closed.ensures c.is_clip-clip.ensures
