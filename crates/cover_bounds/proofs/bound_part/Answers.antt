-- `bound_part` meets its contract: judged, and then d at both sides and the planes. Assumes nothing.
use Rattle.std.specs.Prelude.{◌≡◌}
use Rattle.std.proofs.lemmas.Result.{err_from_is_err_and}
use Rattle.laws.proofs.Prelude.{refl, sym, ap, ◌∙◌, to_z-of_z}
use Rattle.refusals.specs.Refusal.{judgement_in, number_of, refuse}
use Rattle.refusals.specs.declared.Refusal.{Refusal}
use Rattle.cover_statements.specs.InnerCell.{no_cells}
use Rattle.cover_bounds_statements.specs.Within.{bounds_call, bound_planes, bounds_verdict}
use Rattle.cover_bounds_statements.proofs.Calls.{bounds_passed, low_addable, low_light, high_addable, high_light, areas_upward}
use Rattle.cover_bounds_statements.proofs.Promises.{refused_part, written_part}
use Rattle.cover_bounds.proofs.bound_part.Goals as goal
use Rattle.cover_bounds.proofs.bound_part.Goals.{After-judge_bounds}

told : (c : After-judge_bounds) → judgement_in c.judge_bounds.result ≡ bounds_verdict (bounds_call c.args.layer_id c.args.tile_x c.args.tile_y c.args.part.now c.args.bounds.now c.args.low.covers c.args.high.covers) (bound_planes c.args.lowest.now c.args.highest.now c.args.least_non_zero.now c.args.greatest_non_zero.now c.args.least_even_odd.now c.args.greatest_even_odd.now)
told c =
    rw (to_z-of_z c.ranges.tile_x, to_z-of_z c.ranges.tile_y) at c.judge_bounds.ensures

pub sum_bounds-requires : goal.sum_bounds-requires
unfolding no_cells
sum_bounds-requires c =
    let e = sym (told (goal.at.sum_bounds-requires c).After-judge_bounds) ∙ ap judgement_in c.in_ok-judge_bounds.was in
    let p = bounds_passed e in
    (low_addable p, low_light p, refl)

pub sum_bounds-requires-2 : goal.sum_bounds-requires-2
unfolding no_cells
sum_bounds-requires-2 c =
    let e = sym (told (goal.at.sum_bounds-requires-2 c).After-judge_bounds) ∙ ap judgement_in c.in_ok-judge_bounds.was in
    let p = bounds_passed e in
    (high_addable p, high_light p, refl)

pub write_planes-requires : goal.write_planes-requires
write_planes-requires c =
    let e = sym (told (goal.at.write_planes-requires c).After-judge_bounds) ∙ ap judgement_in c.in_ok-judge_bounds.was in
    let p = bounds_passed e in
    (areas_upward p c.sum_bounds.ensures c.sum_bounds-2.ensures, p.roomy)

pub returns-in_err-judge_bounds : goal.returns-in_err-judge_bounds
returns-in_err-judge_bounds c =
    let p = err_from_is_err_and c.from_residual.result c.from_residual.ensures.1 in
    refused_part _ (sym (told (goal.at.returns-in_err-judge_bounds c).After-judge_bounds) ∙ ap judgement_in c.in_err-judge_bounds.was)
    (ap judgement_in p.1 ∙ ap (λ (r : Refusal). refuse (number_of r)) p.2)

pub returns : goal.returns
returns c =
    written_part (bounds_call c.args.layer_id c.args.tile_x c.args.tile_y c.args.part.now c.args.bounds.now c.args.low.covers c.args.high.covers) (record { lows_are = c.sum_bounds.ensures; highs_are = c.sum_bounds-2.ensures })
    (sym (told (goal.at.returns c).After-judge_bounds) ∙ ap judgement_in c.in_ok-judge_bounds.was)
    refl
    c.write_planes.ensures
