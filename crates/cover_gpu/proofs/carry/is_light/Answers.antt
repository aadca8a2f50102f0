-- `carry::is_light` meets its contract. Assumes nothing.
use Rattle.laws.proofs.Prelude.{ap, ◌∙◌, List, ℕ}
use Rattle.pixel_segment.specs.Field.{gpu}
use Rattle.cover_statements.specs.InnerLoad.{loads_of, all_light}
use Rattle.cover_statements.proofs.Loads.{loads_judge}
use Rattle.cover_gpu.proofs.carry.is_light.Goals as goal

pub returns : goal.returns
returns c =
    c.are_light.ensures
    ∙ ap all_light (c.add_loads.ensures ∙ ap (λ (l : List ℕ). loads_of gpu 4 l c.args.part.now) c.magnitudes.ensures.same)
    ∙ loads_judge gpu 4 c.args.cover.covers c.args.part.now
