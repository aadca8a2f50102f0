-- `drive_tiles` meets its contract: each turn is a tile of `Turning`, and the lines that are written go by `Driving`. Assumes nothing.
use Rattle.std.specs.Prelude.{◌≡◌, ◌+◌, ◌*◌, ◌≤◌, ◌<◌}
use Rattle.laws.proofs.Prelude.{ap, ◌∙◌, add-one, arith, pos, length, sets, w16, to_z_pos}
use Rattle.segment_rows.specs.Search.{tile_part}
use Rattle.row_statements.specs.Lent.{Columns, ListColumns}
use Rattle.row_lines.specs.Lines.{line_words}
use Rattle.row_lines.specs.declared.Line.{Line}
use Rattle.row_driver.proofs.Cuts.{within_row, own_part, next_start, end_within, sum_fits}
use Rattle.row_driver.proofs.Turning as turning
use Rattle.row_driver.proofs.Driving.{next, done, refused}
use Rattle.row_driver.proofs.drive_tiles.Goals as goal
use Rattle.row_driver.proofs.drive_tiles.Goals.{After-up_to_tile-part, In-loop-i}

-- the slice that the search gives is the next tile's part
own_is : (c : After-up_to_tile-part) → c.up_to_tile-part.result.now ≡ tile_part (pos c.loop-i.at.next) c.args.row.now
own_is c =
    let p = c.requires in
    let l = c.loop-i in
    let order = p.is_open.in_order in
    let given = rw (to_z_pos w16 (turning.narrow p.is_open l.invariant.1)) at c.up_to_tile-part.ensures in
    own_part _ l.at.next c.args.row.now order.words order.is_row_lem l.invariant.2 given

-- the cut stands inside the row
inside-row : (c : In-loop-i) → c.loop-i.start ≤ length c.args.row.now
inside-row c =
    let order = c.requires.is_open.in_order in
    let l = c.loop-i in
    within_row _ l.at.next c.args.row.now order.words order.is_row_lem l.invariant.2

pub offset_bounds-row-start : goal.offset_bounds-row-start
offset_bounds-row-start c = omega (arith, inside-row (goal.at.offset_bounds-row-start c).In-loop-i)

pub slice_bounds-up_to_tile-count : goal.slice_bounds-up_to_tile-count
slice_bounds-up_to_tile-count c = omega (arith, inside-row (goal.at.slice_bounds-up_to_tile-count c).In-loop-i)

pub slice_bounds-up_to_tile-start : goal.slice_bounds-up_to_tile-start
slice_bounds-up_to_tile-start c = omega (arith, inside-row (goal.at.slice_bounds-up_to_tile-start c).In-loop-i)

pub overflow_add-start : goal.overflow_add-start
overflow_add-start c =
    let order = c.requires.is_open.in_order in
    let l = c.loop-i in
    let row = c.args.row.now in
    sum_fits _ _ (length row) (end_within _ l.at.next row order.words order.is_row_lem l.invariant.2 (own_is (goal.at.overflow_add-start c).After-up_to_tile-part)) (omega (arith, c.well_formed))

pub turn-step-requires : goal.turn-step-requires
turn-step-requires c =
    let a = c.args in
    let p = c.requires in
    let l = c.loop-i in
    let h = c.loop-i-test.true in
    let left : Columns = record { ids = l.a_ids; covers = l.a_covers } in
    let right : Columns = record { ids = l.b_ids; covers = l.b_covers } in
    let list₀ : ListColumns = record { ids = a.list_ids.now; covers = a.list_covers.now; flags = a.list_flags.now; unmasked = a.list_unmasked.now } in
    let list : ListColumns = record { ids = l.list_ids; covers = l.list_covers; flags = l.list_flags; unmasked = l.list_unmasked } in
    let inside : a.state.from + l.i < a.state.to = omega (arith, h, p.inside) in
    let long = turning.list_kept list₀ list l.auto.list_ids l.auto.list_covers l.auto.list_flags l.auto.list_unmasked p.list_long in
    turning.part_workable l.in_a l.at left right p.is_open l.invariant.1 inside list long (own_is (goal.at.turn-step-requires c).After-up_to_tile-part)

pub returns-in-Err : goal.returns-in-Err
returns-in-Err c =
    let a = c.args in
    let p = c.requires in
    let l = c.loop-i in
    let h = c.loop-i-test.true in
    let left : Columns = record { ids = l.a_ids; covers = l.a_covers } in
    let right : Columns = record { ids = l.b_ids; covers = l.b_covers } in
    let list₀ : ListColumns = record { ids = a.list_ids.now; covers = a.list_covers.now; flags = a.list_flags.now; unmasked = a.list_unmasked.now } in
    let list : ListColumns = record { ids = l.list_ids; covers = l.list_covers; flags = l.list_flags; unmasked = l.list_unmasked } in
    let inside : a.state.from + l.i < a.state.to = omega (arith, h, p.inside) in
    let long = turning.list_kept list₀ list l.auto.list_ids l.auto.list_covers l.auto.list_flags l.auto.list_unmasked p.list_long in
    let t = c.turn-step.ensures in
    refused l.invariant.0 h (turning.refused_is l.in_a l.at left right p.is_open l.invariant.1 inside list long (own_is (goal.at.returns-in-Err c).After-up_to_tile-part) _ _ _ t c.in-Err.is)

pub loop-i-preserved : goal.loop-i-preserved
loop-i-preserved c =
    let a = c.args in
    let p = c.requires in
    let l = c.loop-i in
    let h = c.loop-i-test.true in
    let left : Columns = record { ids = l.a_ids; covers = l.a_covers } in
    let right : Columns = record { ids = l.b_ids; covers = l.b_covers } in
    let list₀ : ListColumns = record { ids = a.list_ids.now; covers = a.list_covers.now; flags = a.list_flags.now; unmasked = a.list_unmasked.now } in
    let list : ListColumns = record { ids = l.list_ids; covers = l.list_covers; flags = l.list_flags; unmasked = l.list_unmasked } in
    let inside : a.state.from + l.i < a.state.to = omega (arith, h, p.inside) in
    let long = turning.list_kept list₀ list l.auto.list_ids l.auto.list_covers l.auto.list_flags l.auto.list_unmasked p.list_long in
    let t = c.turn-step.ensures in
    let e = c.in-Ok.is in
    let own = own_is (goal.at.loop-i-preserved c).After-up_to_tile-part in
    let order = p.is_open.in_order in
    let after = turning.holds_next l.in_a l.at left right p.is_open l.invariant.1 inside list long own _ _ _ t e in
    let one_more : c.turn-step.result.worked.state.next ≡ l.at.next + 1 = omega (arith, turning.tile_is p.is_open l.invariant.1, turning.tile_is p.is_open after) in
    let cut_next = next_start _ l.at.next a.row.now order.words order.is_row_lem l.invariant.2 own in
    let told = c.write_line.ensures ∙ ap (λ (x : Line). sets l.lines (l.i * 5) (line_words x)) (turning.line_is l.in_a l.at left right p.is_open l.invariant.1 inside list long own _ _ _ t e) in (
      next l.invariant.0 h (turning.accepted l.in_a l.at left right p.is_open l.invariant.1 inside list long own _ _ _ t e) told,
      rw (add-one l.i) after,
      rw one_more cut_next,
    )

pub returns : goal.returns
returns c =
    done c.loop-i.invariant.0 c.loop-i-test.false
