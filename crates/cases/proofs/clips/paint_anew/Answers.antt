-- `clips::paint_anew` meets its contract. Assumes nothing.
use Rattle.laws.proofs.Prelude.{ap, ◌∙◌, rules, all}
use Rattle.cases.specs.Answers.{is_a_half}
use Rattle.cases.proofs.clips.paint_anew.Goals as goal

pub paint-painting-requires : goal.paint-painting-requires
paint-painting-requires c = (search rules, c.requires)

pub returns : goal.returns
returns c =
    let painting = c.paint-painting.ensures in
    record {
      clip_is = painting.clip_is;
      mark_is = painting.mark_is;
      half_is = c.is_half-halves.ensures ∙ ap (all is_a_half) painting.plane_is;
    }
