-- `judge_painting` meets its contract. Assumes nothing.
use Rattle.refusals.specs.declared.Refusal.{Refusal}
use Rattle.std.specs.Prelude.{◌≡◌, Float, Result, Ok}
use Rattle.laws.proofs.Prelude.{List, sym, ap, ◌∙◌, arith, w16, SFits, to_z-of_z, sfits, whole}
use Rattle.refusals.specs.Refusal.{Judgement, pass, judgement_in, and_then}
use Rattle.refusals.proofs.Judging.{handed_on}
use Rattle.layer_table.proofs.Judging as judged
use Rattle.queue_statements.proofs.Judging.{queued}
use Rattle.row_statements.specs.Lent.{columns, lent_table}
use Rattle.row_statements.specs.State.{state_in}
use Rattle.row_statements.specs.Painting.{PaintCall, paint_call, call_verdict, own_verdict}
use Rattle.row_statements.proofs.Paintings.{call_passed}
use Rattle.row_painting.proofs.judge_painting.Goals as goal
use Rattle.row_painting.proofs.judge_painting.Goals.{After-judge_call, Start}

-- what the function is called with
called : Start → PaintCall
called s = let a = s.args in paint_call (state_in a.state) a.tile a.layer a.row.now (lent_table a.layers.now a.colors.now a.count) (columns a.ids.now a.covers.now)

-- the verdict of 1 to 5
told : (c : After-judge_call) → judgement_in c.judge_call.result ≡ call_verdict (called c.before.before.before.before.before.before.before) c.args.plane.now
unfolding called call_verdict
told c = c.judge_call.ensures ∙ rw (to_z-of_z c.ranges.tile)

-- where they pass
passes : (k : PaintCall) (plane : List Float) {v : Result Unit Refusal} → judgement_in v ≡ call_verdict k plane → v ≡ (Ok tt) → call_verdict k plane ≡ pass
passes k plane t e = sym t ∙ ap judgement_in e

-- the tile is a number of 16 signed bits
tile_fits : (k : PaintCall) (plane : List Float) → call_verdict k plane ≡ pass → SFits w16 k.tile
tile_fits k plane e =
    let p = call_passed k plane e in
    sfits w16 k.tile (omega (arith, p.worked, p.in_state, whole k.tile))

pub overflow_cast-tile : goal.overflow_cast-tile
unfolding called
overflow_cast-tile c =
    let a = goal.at.overflow_cast-tile c in
    rw (to_z-of_z c.ranges.tile) (tile_fits (called a.Start) c.args.plane.now (passes (called a.Start) c.args.plane.now (told a.After-judge_call) c.in_ok-judge_call.was))

pub judge_layer-requires : goal.judge_layer-requires
unfolding called
judge_layer-requires c =
    let a = goal.at.judge_layer-requires c in
    let p = call_passed (called a.Start) c.args.plane.now (passes (called a.Start) c.args.plane.now (told a.After-judge_call) c.in_ok-judge_call.was) in
    (judged.table p.in_table, queued p.queue_room p.in_queue)

pub returns-in_err-judge_call : goal.returns-in_err-judge_call
unfolding called
returns-in_err-judge_call c =
    let a = goal.at.returns-in_err-judge_call c in
    let e : judgement_in c.judge_call.result ≡ _ = ap judgement_in c.in_err-judge_call.was in
    rw (handed_on c.from_residual.result c.from_residual.ensures.1) (sym (ap (λ (v : Judgement). and_then v (own_verdict (called a.Start))) (sym (told a.After-judge_call) ∙ e)))

pub returns : goal.returns
unfolding called
returns c =
    let a = goal.at.returns c in
    let e = passes (called a.Start) c.args.plane.now (told a.After-judge_call) c.in_ok-judge_call.was in
    let part = rw (to_z-of_z c.ranges.tile, to_z-of_z (tile_fits (called a.Start) c.args.plane.now e)) at c.in_tile-part.ensures in
    let here = rw part at c.judge_layer.ensures in
    here ∙ sym (ap (λ (v : Judgement). and_then v (own_verdict (called a.Start))) e)
