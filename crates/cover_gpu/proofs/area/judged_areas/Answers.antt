-- `area::judged_areas` meets its contract. Assumes nothing.
use Rattle.std.specs.Prelude.{◌≡◌}
use Rattle.laws.proofs.Prelude.{refl, sym, ap, ◌∙◌, true, false≢true, List, ℕ, rules, length}
use Rattle.pixel_segment.specs.Field.{gpu}
use Rattle.cover_statements.specs.Carry.{is_light}
use Rattle.cover_statements.specs.InnerCell.{no_cells}
use Rattle.cover_statements.specs.InnerLoad.{loads_of, all_light}
use Rattle.cover_statements.proofs.Loads.{loads_judge, incoming_heavy}
use Rattle.cover_gpu.proofs.area.judged_areas.Goals as goal
use Rattle.cover_gpu.proofs.area.judged_areas.Goals.{After-acc_segments}

-- what the pass says is number 9
judged : (a : After-acc_segments) → a.acc_segments.result ≡ is_light gpu 4 a.args.cover.covers a.args.part.now
judged a =
    a.acc_segments.ensures.light
    ∙ ap (λ (l : List ℕ). all_light (loads_of gpu 4 l a.args.part.now)) a.magnitudes-loads.ensures.same
    ∙ loads_judge gpu 4 a.args.cover.covers a.args.part.now

accepted : (a : After-acc_segments) → a.acc_segments.result ≡ true → is_light gpu 4 a.args.cover.covers a.args.part.now ≡ true
accepted a h = sym (judged a) ∙ h

pub returns-then-not-are_light : goal.returns-then-not-are_light
returns-then-not-are_light c =
    let long : length c.args.cover.covers ≡ 4 = search rules in
    record {
      light =
          sym (incoming_heavy gpu 4 c.args.cover.covers c.args.part.now long
          (ap all_light (sym c.magnitudes-loads.ensures.same) ∙ sym c.are_light.ensures ∙ c.if-not-are_light.true));
      areas_are = λ e. absurd (false≢true e);
    }

pub acc_segments-requires : goal.acc_segments-requires
unfolding no_cells
acc_segments-requires c =
    (sym c.are_light.ensures ∙ c.if-not-are_light.false, c.requires, refl)

pub returns-then-not-acc_segments : goal.returns-then-not-acc_segments
returns-then-not-acc_segments c = record { light = sym (c.if-not-acc_segments.true) ∙ judged (goal.at.returns-then-not-acc_segments c).After-acc_segments; areas_are = λ e. absurd (false≢true e) }

pub sum_rows-requires : goal.sum_rows-requires
sum_rows-requires c =
    record { part = _; cells = c.acc_segments.ensures.sums (c.if-not-acc_segments.false); light = accepted (goal.at.sum_rows-requires c).After-acc_segments c.if-not-acc_segments.false }

pub returns : goal.returns
returns c =
    record {
      light = sym (accepted (goal.at.returns c).After-acc_segments c.if-not-acc_segments.false);
      areas_are = λ t. c.sum_rows.ensures.areas_are _ (c.acc_segments.ensures.sums (c.if-not-acc_segments.false));
    }
