-- `judging::judge_work` meets its contract. Assumes nothing.
use Rattle.std.specs.Prelude.{◌≡◌, ◌≤◌, ◌<◌, ◌||◌}
use Rattle.laws.proofs.Prelude.{true, false, sym, ap, ◌∙◌, ℕ, suc, add-one, arith, lt-ltb, le-ltb, ℤ, pos, length, to_z-of_z, plus}
use Rattle.pixel_segment.specs.Field.{gpu}
use Rattle.segment_rows.specs.Rows.{is_row, Words}
use Rattle.cover_statements.specs.Carry.{is_light}
use Rattle.cover_statements.specs.WholeRow.{part_of}
use Rattle.layer_row_gpu.specs.LayerState.{layer_state_in, layer_tile, is_astray, is_other_tile}
use Rattle.layer_row_gpu.specs.WorkLayer.{work_layer_verdict}
use Rattle.layer_row_gpu.proofs.Parts.{part_is}
use Rattle.layer_row_gpu.proofs.Verdicts.{due}
use Rattle.layer_row_gpu.proofs.judging.judge_work.Goals as goal
use Rattle.layer_row_gpu.proofs.judging.judge_work.Goals.{After-is_light, After-is_other_tile, After-is_row}

-- whether the tile is another one
other-told : (c : After-is_other_tile) → let a = c.args in c.is_other_tile.result ≡ is_other_tile (layer_state_in a.state) a.tile
other-told c = rw (to_z-of_z c.ranges.tile) at c.is_other_tile.ensures

-- whether the row is in order, as the definition asks it
row_told : (c : After-is_row) → let a = c.args in c.is_row.result ≡ is_row gpu (suc a.state.tile_y) a.row.now
row_told c =
    let a = c.args in
    c.is_row.ensures ∙ ap (λ (n : ℕ). is_row gpu n a.row.now) (add-one a.state.tile_y)

-- where 2 does not apply
due-told :
    (c : After-is_other_tile)
    → let a = c.args in
    is_astray (layer_state_in a.state) || c.is_other_tile.result ≡ false
    → (a.tile ≡ pos a.state.next) × (a.state.next < a.state.to) × (a.state.to ≤ 4095)
due-told c h =
    let a = c.args in
    due (layer_state_in a.state) a.tile (rw (other-told c) at h)

-- whether number 9 does not apply
light-told :
    (c : After-is_light)
    → let a = c.args in
    a.tile ≡ pos a.state.next
    → is_row gpu (suc a.state.tile_y) a.row.now ≡ true
    → Words a.row.now
    → c.is_light.result ≡ is_light gpu 4 a.state.cover.covers (layer_tile (layer_state_in a.state) a.tile a.row.now)
light-told c d e s =
    let a = c.args in
    c.is_light.ensures
    ∙ ap (is_light gpu 4 a.state.cover.covers)
    (c.layer_part-part.ensures
    ∙ part_is _ s e a.state.next a.state.layer_id
    ∙ ap (λ (z : ℤ). part_of gpu (suc (plus z)) a.state.layer_id a.row.now) (sym d))

pub returns-then-plane-lt64 : goal.returns-then-plane-lt64
unfolding work_layer_verdict
returns-then-plane-lt64 c = rw (lt-ltb _ 64 c.if-plane-lt64.true)

pub returns-then-is_astray-is_other_tile : goal.returns-then-is_astray-is_other_tile
unfolding work_layer_verdict
returns-then-is_astray-is_other_tile c =
    rw (le-ltb (length c.args.plane.now) 64 c.if-plane-lt64.false, ← c.is_astray.ensures, ← other-told (goal.at.returns-then-is_astray-is_other_tile c).After-is_other_tile, c.if-is_astray-is_other_tile.true)

pub returns-then-not-is_row : goal.returns-then-not-is_row
unfolding work_layer_verdict
returns-then-not-is_row c =
    rw (
      le-ltb (length c.args.plane.now) 64 c.if-plane-lt64.false,
      ← c.is_astray.ensures,
      ← other-told (goal.at.returns-then-not-is_row c).After-is_other_tile,
      c.if-is_astray-is_other_tile.false,
      ← row_told (goal.at.returns-then-not-is_row c).After-is_row,
      c.if-not-is_row.true,
    )

pub layer_part-part-requires : goal.layer_part-part-requires
layer_part-part-requires c =
    let d = due-told (goal.at.layer_part-part-requires c).After-is_other_tile (rw (c.is_astray.ensures) at c.if-is_astray-is_other_tile.false) in
    omega (arith, d.1, d.2)

pub returns-then-not-is_light : goal.returns-then-not-is_light
unfolding work_layer_verdict
returns-then-not-is_light c =
    let places = goal.at.returns-then-not-is_light c in
    let d = due-told places.After-is_other_tile (rw c.is_astray.ensures at c.if-is_astray-is_other_tile.false) in
    let sorted = sym (row_told places.After-is_row) ∙ c.if-not-is_row.false in
    rw (
      le-ltb (length c.args.plane.now) 64 c.if-plane-lt64.false,
      ← c.is_astray.ensures,
      ← other-told places.After-is_other_tile,
      c.if-is_astray-is_other_tile.false,
      ← row_told places.After-is_row,
      c.if-not-is_row.false,
      ← light-told places.After-is_light d.0 sorted (record { small = λ i. (c.type_inv.row i).fits }),
      c.if-not-is_light.true,
    )

pub returns : goal.returns
unfolding work_layer_verdict
returns c =
    let places = goal.at.returns c in
    let d = due-told places.After-is_other_tile (rw c.is_astray.ensures at c.if-is_astray-is_other_tile.false) in
    let sorted = sym (row_told places.After-is_row) ∙ c.if-not-is_row.false in
    rw (
      le-ltb (length c.args.plane.now) 64 c.if-plane-lt64.false,
      ← c.is_astray.ensures,
      ← other-told places.After-is_other_tile,
      c.if-is_astray-is_other_tile.false,
      ← row_told places.After-is_row,
      c.if-not-is_row.false,
      ← light-told places.After-is_light d.0 sorted (record { small = λ i. (c.type_inv.row i).fits }),
      c.if-not-is_light.false,
    )
