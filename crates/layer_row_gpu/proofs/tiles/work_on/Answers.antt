-- `tiles::work_on` meets its contract: each turn is a tile of `Going`. Assumes nothing.
use Rattle.std.specs.Prelude.{◌≡◌, ◌/◌}
use Rattle.laws.proofs.Prelude.{sym, ap, ◌∙◌, ℕ, arith, leb, length}
use Rattle.layer_row_gpu.specs.LayerState.{layer_state_in}
use Rattle.layer_row_gpu.specs.InnerTiles.{next_in, next_judged}
use Rattle.layer_row_gpu.proofs.Going.{all_worked, stops, next, told_so}
use Rattle.layer_row_gpu.proofs.tiles.work_on.Goals as goal
use Rattle.layer_row_gpu.proofs.tiles.work_on.Goals.{After-judge_next}

-- what the judge says of the next tile
told : (c : After-judge_next) → let l = c.loop-k in next_in c.judge_next.result ≡ next_judged (layer_state_in l.state) c.args.row.now (leb (length c.args.planes.now / 64) l.k)
told c =
    let l = c.loop-k in
    c.judge_next.ensures ∙ ap (λ (m : ℕ). next_judged (layer_state_in l.state) c.args.row.now (leb m l.k)) l.invariant.1

pub returns-in-Some : goal.returns-in-Some
returns-in-Some c =
    let l = c.loop-k in
    told_so (stops l.invariant.0 c.loop-k-test.true _ (sym (told (goal.at.returns-in-Some c).After-judge_next) ∙ ap next_in c.in-Some.is)) c.ended_so.ensures

pub loop-k-preserved : goal.loop-k-preserved
loop-k-preserved c =
    let l = c.loop-k in
    let e = c.work_plane-state.ensures in
    (next l.invariant.0 c.loop-k-test.true (sym (told (goal.at.loop-k-preserved c).After-judge_next) ∙ ap next_in c.in_default.is) e.0 e.1, l.invariant.1)

pub returns : goal.returns
returns c =
    let l = c.loop-k in
    let e : l.k ≡ c.args.tiles = omega arith in
    told_so (all_worked l.invariant.0 (omega arith)) (rw (← e) at c.ended_so-2.ensures)
