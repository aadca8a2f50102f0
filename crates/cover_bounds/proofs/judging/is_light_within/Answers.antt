-- `judging::is_light_within` meets its contract. Assumes nothing.
use Rattle.laws.proofs.Prelude.{ap, ◌∙◌, List, map, ℕ, nat_abs, tabulate}
use Rattle.pixel_segment.specs.Field.{cpu}
use Rattle.cover_statements.specs.Cover.{cover_at}
use Rattle.cover_statements.specs.InnerLoad.{loads_of, all_light}
use Rattle.cover_statements.proofs.Loads.{loads_judge}
use Rattle.cover_bounds_statements.specs.Chosen.{chosen, heavier, is_light_within}
use Rattle.cover_bounds_statements.specs.Within.{bound_at}
use Rattle.cover_bounds.proofs.judging.is_light_within.Goals as goal

pub returns : goal.returns
unfolding is_light_within
returns c =
    let bounds = c.args.bounds.now in
    let words = chosen cpu c.args.part.now (λ i. heavier (bound_at 0 bounds i) (bound_at 1 bounds i)) in
    let top = tabulate 16 (λ y. heavier (cover_at c.args.low.covers y) (cover_at c.args.high.covers y)) in
    c.are_light.ensures
    ∙ ap all_light c.add_heavier.ensures
    ∙ ap (λ (l : List ℕ). all_light (loads_of cpu 16 l words)) (c.magnitudes-loads.ensures.same ∙ ap (map nat_abs) c.heavier_carry.ensures)
    ∙ loads_judge cpu 16 top words
