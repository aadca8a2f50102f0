-- `tiles::judge_next` meets its contract. Assumes nothing.
use Rattle.std.specs.Prelude.{◌≡◌}
use Rattle.laws.proofs.Prelude.{ap, ◌∙◌, arith, le-leb, lt-leb}
use Rattle.pixel_segment.specs.Field.{gpu}
use Rattle.cover_statements.specs.Carry.{is_light}
use Rattle.layer_row_gpu.specs.LayerState.{layer_state_in}
use Rattle.layer_row_gpu.specs.InnerWorks.{due_tile}
use Rattle.layer_row_gpu.proofs.Parts.{part_is}
use Rattle.layer_row_gpu.proofs.tiles.judge_next.Goals as goal
use Rattle.layer_row_gpu.proofs.tiles.judge_next.Goals.{After-is_light}

-- whether number 9 does not apply
light-told : (c : After-is_light) → let a = c.args in c.is_light.result ≡ is_light gpu 4 a.state.cover.covers (due_tile (layer_state_in a.state) a.row.now)
light-told c =
    c.is_light.ensures
    ∙ ap (is_light gpu 4 c.args.state.cover.covers)
    (c.layer_part-part.ensures ∙ part_is _ (record { small = λ i. (c.type_inv.row i).fits }) c.requires.in_order c.args.state.next c.args.state.layer_id)

pub returns-then-state : goal.returns-then-state
returns-then-state c = let a = c.args.state in rw (le-leb a.to a.next c.if-state.true)

pub returns-then-is_full : goal.returns-then-is_full
returns-then-is_full c =
    let a = c.args.state in
    rw (lt-leb a.to a.next (omega (arith, c.if-state.false)), c.if-is_full.true)

pub layer_part-part-requires : goal.layer_part-part-requires
layer_part-part-requires c = omega (arith, c.requires.last_low, c.if-state.false)

pub returns-then-not-is_light : goal.returns-then-not-is_light
returns-then-not-is_light c =
    let a = c.args.state in
    rw (lt-leb a.to a.next (omega (arith, c.if-state.false)), c.if-is_full.false, ← light-told (goal.at.returns-then-not-is_light c).After-is_light, c.if-not-is_light.true)

pub returns : goal.returns
returns c =
    let a = c.args.state in
    rw (lt-leb a.to a.next (omega (arith, c.if-state.false)), c.if-is_full.false, ← light-told (goal.at.returns c).After-is_light, c.if-not-is_light.false)
