-- `plane::column::is_light` meets its contract. Assumes nothing.
use Rattle.std.specs.Prelude.{◌≡◌}
use Rattle.laws.proofs.Prelude.{ap, ◌∙◌, List, [], ℕ, arith, rules, length}
use Rattle.pixel_segment.specs.Field.{cpu}
use Rattle.cover_statements.specs.InnerLoad.{loads_of, all_light}
use Rattle.cover_statements.proofs.Loads.{load_start, load_end, loads_judge}
use Rattle.plane.proofs.column.is_light.Goals as goal

pub returns : goal.returns
returns c =
    let long : length c.magnitudes-loads.result ≡ 16 = search rules in
    c.are_light.ensures
    ∙ ap all_light
    (load_end cpu (load_start long c.magnitudes-loads.ensures.capped) (omega arith)
    ∙ ap (λ (l : List ℕ). loads_of cpu 16 l []) c.magnitudes-loads.ensures.same)
    ∙ loads_judge cpu 16 c.args.cover.covers []
