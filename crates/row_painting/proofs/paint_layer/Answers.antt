-- `paint_layer` meets its contract. Assumes nothing.
use Rattle.refusals.specs.declared.Refusal.{Refusal}
use Rattle.std.specs.Prelude.{◌≡◌, Float, Result, Ok}
use Rattle.laws.proofs.Prelude.{List, refl, sym, ap, ◌∙◌, arith, w16, SFits, to_z-of_z, sfits, whole}
use Rattle.refusals.specs.Refusal.{pass, judgement_in}
use Rattle.refusals.proofs.Judging.{both_passed}
use Rattle.layer_table.proofs.Judging as judged
use Rattle.row_statements.specs.Lent.{columns, lent_table, layers_of}
use Rattle.row_statements.specs.State.{state_in}
use Rattle.row_statements.specs.Painting.{PaintCall, paint_call, call_verdict, own_verdict, paint_verdict, taken_for, part_for, paint_says}
use Rattle.row_statements.proofs.Paintings.{Called, LayerPassed, call_passed, layer_passed, ready, paints_refused, paints_done}
use Rattle.row_painting.proofs.paint_layer.Goals as goal
use Rattle.row_painting.proofs.paint_layer.Goals.{After-judge_painting, Start}

-- what the function is called with
called : Start → PaintCall
called s = let a = s.args in paint_call (state_in a.state) a.tile a.layer a.row.now (lent_table a.layers.now a.colors.now a.count) (columns a.ids.now a.covers.now)

-- the verdict
told : (c : After-judge_painting) → judgement_in c.judge_painting.result ≡ paint_verdict (called c.before.before.before.before.before.before.before) c.args.plane.now
unfolding called
told c = c.judge_painting.ensures ∙ rw (to_z-of_z c.ranges.tile)

-- where it passes
passes : (k : PaintCall) (plane : List Float) {v : Result Unit Refusal} → judgement_in v ≡ paint_verdict k plane → v ≡ (Ok tt) → paint_verdict k plane ≡ pass
passes k plane t e = sym t ∙ ap judgement_in e

known : (k : PaintCall) (plane : List Float) → paint_verdict k plane ≡ pass → Called k plane × LayerPassed (layers_of k.table) (taken_for k) (part_for k) k.layer
known k plane e =
    let p = both_passed (call_verdict k plane) (own_verdict k) e in
    (call_passed k plane p.0, layer_passed (layers_of k.table) (taken_for k) (part_for k) k.layer p.1)

-- the tile is a number of 16 signed bits
tile_fits : (k : PaintCall) (plane : List Float) → paint_verdict k plane ≡ pass → SFits w16 k.tile
tile_fits k plane e =
    let p = (known k plane e).0 in
    sfits w16 k.tile (omega (arith, p.worked, p.in_state, whole k.tile))

pub overflow_cast-tile : goal.overflow_cast-tile
unfolding called
overflow_cast-tile c =
    let a = goal.at.overflow_cast-tile c in
    rw (to_z-of_z c.ranges.tile) (tile_fits (called a.Start) c.args.plane.now (passes (called a.Start) c.args.plane.now (told a.After-judge_painting) c.in-Ok.is))

pub record_of-found-requires : goal.record_of-found-requires
unfolding called
record_of-found-requires c =
    let a = goal.at.record_of-found-requires c in
    judged.table (known (called a.Start) c.args.plane.now (passes (called a.Start) c.args.plane.now (told a.After-judge_painting) c.in-Ok.is)).0.in_table

pub paint-requires : goal.paint-requires
unfolding called
paint-requires c =
    let a = goal.at.paint-requires c in
    let e = passes (called a.Start) c.args.plane.now (told a.After-judge_painting) c.in-Ok.is in
    let p = known (called a.Start) c.args.plane.now e in
    let part = rw (to_z-of_z c.ranges.tile, to_z-of_z (tile_fits (called a.Start) c.args.plane.now e)) at c.in_tile-part.ensures in
    rw (part, c.record_of-found.ensures) (ready (called a.Start) c.args.plane.now p.0 (record { small = λ i. (c.type_inv.row i).fits }), p.1.found, p.1.light)

pub returns-in-Err : goal.returns-in-Err
unfolding called
returns-in-Err c =
    let a = goal.at.returns-in-Err c in
    let k = called a.Start in
    paints_refused (paint_says (layers_of k.table) (taken_for k) (part_for k) k.layer k.state.clip) c.args.state (sym (told a.After-judge_painting) ∙ ap judgement_in c.in-Err.is) refl

pub returns-in-Ok : goal.returns-in-Ok
unfolding called
returns-in-Ok c =
    let a = goal.at.returns-in-Ok c in
    let k = called a.Start in
    let e = passes (called a.Start) c.args.plane.now (told a.After-judge_painting) c.in-Ok.is in
    let part = rw (to_z-of_z c.ranges.tile, to_z-of_z (tile_fits k c.args.plane.now e)) at c.in_tile-part.ensures in
    rw c.answered.ensures
    (paints_done (layers_of k.table) (taken_for k) (part_for k) k.layer c.args.state e refl
    (rw (part, c.record_of-found.ensures) at c.paint.ensures))
