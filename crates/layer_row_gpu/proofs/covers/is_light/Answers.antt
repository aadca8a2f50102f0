-- `covers::is_light` meets its contract. Assumes nothing.
use Rattle.laws.proofs.Prelude.{ap, ◌∙◌}
use Rattle.cover_statements.specs.InnerLoad.{all_light}
use Rattle.layer_row_gpu.proofs.Within.{judge_within}
use Rattle.layer_row_gpu.proofs.covers.is_light.Goals as goal

pub returns : goal.returns
returns c = c.are_light.ensures ∙ ap all_light c.loads.ensures ∙ judge_within c.args.layer_id c.args.part.now
