-- `work_many` meets its contract: each turn is a tile of `Turning`, and what is left goes by `Going`. Assumes nothing.
use Rattle.std.specs.Prelude.{◌≡◌, ◌+◌, ◌-◌, ◌≤◌}
use Rattle.laws.proofs.Prelude.{refl, ap, ap₂, sym, subst, ◌∙◌, false, ℕ, arith, pos, length, w16, to_z_pos, small}
use Rattle.refusals.specs.Refusal.{Judgement, judgement_in}
use Rattle.segment_rows.specs.Search.{left_part, tile_part}
use Rattle.row_statements.specs.State.{State}
use Rattle.row_statements.specs.Lent.{columns, list_columns, is_list_short, lent_table}
use Rattle.row_driver.proofs.Cuts.{within_row, own_part, next_start, end_within, sum_fits}
use Rattle.batch_statements.specs.BatchLent.{BatchLent, batch_lent, sided}
use Rattle.batch_statements.specs.Batch.{BatchRow, BatchAt, batch_row, turn_of, tiles_from}
use Rattle.batch_steps.specs.InnerStanding.{starting}
use Rattle.batch_steps.specs.declared.Standing.{Standing}
use Rattle.tile_batch.specs.InnerTurns.{batch_in}
use Rattle.tile_batch.proofs.Going.{Goes, goes, Going, left_of, start, narrow, turnable, past, at_is, rest_ended, ends_batch}
use Rattle.tile_batch.proofs.work_many.Goals as goal
use Rattle.tile_batch.proofs.work_many.Goals.{After-up_to_tile-part, At-loop-room, In-loop-room, Start}

abbrev row_of : Start → BatchRow
row_of s = let a = s.args in batch_row a.row.now (lent_table a.layers.now a.colors.now a.count) a.keeps a.clear a.previous

abbrev lent_of : Start → BatchLent
lent_of s =
    let a = s.args in
    batch_lent (columns a.a_ids.now a.a_covers.now) (columns a.b_ids.now a.b_covers.now) a.kept.now a.told.now a.bottoms.now a.planes.now a.painted.now

-- where the loop stands
abbrev row_at : At-loop-room → BatchRow
row_at c = let a = c.args in batch_row a.row.now (lent_table a.layers.now a.colors.now a.count) a.keeps a.clear a.previous

abbrev held_at : At-loop-room → BatchLent
held_at c = let l = c.loop-room in batch_lent (columns l.a_ids l.a_covers) (columns l.b_ids l.b_covers) l.kept l.told l.bottoms l.planes l.painted

abbrev standAt : At-loop-room → BatchAt
standAt c = batch_in c.loop-room.at (sided c.loop-room.at.first (held_at c))

-- where it began
abbrev begunAt : At-loop-room → BatchAt
begunAt c =
    let a = c.args in
    batch_in c.started-at.result (batch_lent (columns a.a_ids.now a.a_covers.now) (columns a.b_ids.now a.b_covers.now) a.kept.now a.told.now a.bottoms.now a.planes.now a.painted.now)

going : (c : At-loop-room) → Going (row_at c) c.args.room c.args.tiles (begunAt c) (standAt c) (judgement_in c.loop-room.at.verdict)
going c = c.loop-room.invariant.0

-- another tile is worked
on : (c : In-loop-room) → let l = c.loop-room in let a = c.args in Goes (judgement_in l.at.verdict) l.at.worked l.at.used l.at.state.next l.at.state.to a.tiles a.room
on c = let l = c.loop-room in let a = c.args in goes (judgement_in l.at.verdict) l.at.worked l.at.used l.at.state.next l.at.state.to a.tiles a.room (sym c.goes_on.ensures ∙ c.loop-room-test.true)

-- so the search starts where the tile before ended
start_is : (c : In-loop-room) → c.loop-room.start ≡ length (left_part (pos c.loop-room.at.state.next) c.args.row.now)
start_is c = c.loop-room.invariant.14 (on c).passes

-- the list has its entries
list_long : (c : At-loop-room) → let l = c.loop-room in is_list_short (list_columns l.list_ids l.list_covers l.list_flags l.list_unmasked) ≡ false
list_long c = let v = c.loop-room.invariant in rw (v.10, v.11, v.12, v.13)

-- the slice that the search gives is the next tile's part
own_is : (c : After-up_to_tile-part) → c.loop-room.start ≡ length (left_part (pos c.loop-room.at.state.next) c.args.row.now) → c.up_to_tile-part.result.now ≡ tile_part (pos c.loop-room.at.state.next) c.args.row.now
own_is c from =
    let l = c.loop-room in
    let stands = l.invariant.0.stands in
    let given = rw (to_z_pos w16 (narrow stands)) at c.up_to_tile-part.ensures in
    own_part _ l.at.state.next c.args.row.now stands.words stands.ascends from given

-- the cut stands inside the row
inside_row : (c : In-loop-room) → c.loop-room.start ≤ length c.args.row.now
inside_row c =
    let l = c.loop-room in
    let stands = l.invariant.0.stands in
    within_row _ l.at.state.next c.args.row.now stands.words stands.ascends (start_is c)

pub overflow_cast-state : goal.overflow_cast-state
overflow_cast-state c = small w16 (pos c.args.state.next) (narrow c.requires.stands)

pub loop-room-init : goal.loop-room-init
loop-room-init c =
    let p = c.requires in
    let left = rw (to_z_pos w16 (narrow p.stands)) at c.left_of_tile-start.ensures in
    rw c.started-at.ensures
    (start (row_of (goal.at.loop-room-init c).Start) c.args.room c.args.tiles (batch_in (starting c.args.state) (lent_of (goal.at.loop-room-init c).Start)) p.stands p.room refl, refl, refl, refl, refl, refl, refl, refl, refl, refl, refl, refl, refl, refl, λ e. ap length left)

pub offset_bounds-row-start : goal.offset_bounds-row-start
offset_bounds-row-start c = omega (arith, inside_row (goal.at.offset_bounds-row-start c).In-loop-room, c.well_formed)

pub slice_bounds-up_to_tile-count : goal.slice_bounds-up_to_tile-count
slice_bounds-up_to_tile-count c = omega (arith, inside_row (goal.at.slice_bounds-up_to_tile-count c).In-loop-room)

pub slice_bounds-up_to_tile-start : goal.slice_bounds-up_to_tile-start
slice_bounds-up_to_tile-start c = omega (arith, inside_row (goal.at.slice_bounds-up_to_tile-start c).In-loop-room)

pub overflow_cast-stood : goal.overflow_cast-stood
overflow_cast-stood c = let l = c.loop-room in small w16 (pos l.at.state.next) (narrow l.invariant.0.stands)

pub overflow_add-start : goal.overflow_add-start
overflow_add-start c =
    let l = c.loop-room in
    let stands = l.invariant.0.stands in
    let row = c.args.row.now in
    sum_fits _ _ (length row) (end_within _ l.at.state.next row stands.words stands.ascends (start_is (goal.at.overflow_add-start c).In-loop-room) (own_is (goal.at.overflow_add-start c).After-up_to_tile-part (start_is (goal.at.overflow_add-start c).In-loop-room))) (omega (arith, c.well_formed))

pub turn-at-requires : goal.turn-at-requires
turn-at-requires c =
    let a = c.args in
    let l = c.loop-room in
    let here = (goal.at.turn-at-requires c).At-loop-room in
    let worked = (goal.at.turn-at-requires c).In-loop-room in
    turnable (row_at here) a.room a.tiles (begunAt here) (standAt here) (going here) (on worked) (list_columns l.list_ids l.list_covers l.list_flags l.list_unmasked) (list_long here)
    (own_is (goal.at.turn-at-requires c).After-up_to_tile-part (start_is worked))

pub loop-room-smaller : goal.loop-room-smaller
loop-room-smaller c =
    let a = c.args in
    let l = c.loop-room in
    let here = (goal.at.loop-room-smaller c).At-loop-room in
    let worked = (goal.at.loop-room-smaller c).In-loop-room in
    let own = own_is (goal.at.loop-room-smaller c).After-up_to_tile-part (start_is worked) in
    let given = c.turn-at.ensures.gives a.row.now (record { stands = (going here).stands; part_is = own }) in
    let after = past (row_at here) a.room a.tiles (begunAt here) (standAt here) (going here) (on worked) (list_columns l.list_ids l.list_covers l.list_flags l.list_unmasked) (list_long here) own in
    let same = ap₂ (λ (v : Judgement) (k : ℕ). left_of v (a.tiles - k)) given.verdict given.worked in
    let less = after.less in
    omega (arith, same, less)

pub loop-room-preserved : goal.loop-room-preserved
loop-room-preserved c =
    let a = c.args in
    let l = c.loop-room in
    let v = l.invariant in
    let here = (goal.at.loop-room-preserved c).At-loop-room in
    let worked = (goal.at.loop-room-preserved c).In-loop-room in
    let own = own_is (goal.at.loop-room-preserved c).After-up_to_tile-part (start_is worked) in
    let given = c.turn-at.ensures.gives a.row.now (record { stands = (going here).stands; part_is = own }) in
    let after = past (row_at here) a.room a.tiles (begunAt here) (standAt here) (going here) (on worked) (list_columns l.list_ids l.list_covers l.list_flags l.list_unmasked) (list_long here) own in
    let r = c.turn-at.result in
    let k = c.turn-at.new in
    let left = batch_lent (columns k.a_ids k.a_covers) (columns k.b_ids k.b_covers) k.kept k.told k.bottoms k.planes k.painted in
    let is = at_is (row_at here) (standAt here) given after.going.stands in (
      subst (λ (j : Judgement). Going (row_at here) a.room a.tiles (begunAt here) (batch_in r (sided r.first left)) j) (sym given.verdict)
          (subst (λ (x : BatchAt). Going (row_at here) a.room a.tiles (begunAt here) x (turn_of (row_at here) (standAt here)).verdict) (sym is) after.going),
      c.turn-at.auto.a_ids ∙ v.1,
      c.turn-at.auto.a_covers ∙ v.2,
      c.turn-at.auto.b_ids ∙ v.3,
      c.turn-at.auto.b_covers ∙ v.4,
      c.turn-at.auto.kept ∙ v.5,
      c.turn-at.auto.told ∙ v.6,
      c.turn-at.auto.bottoms ∙ v.7,
      c.turn-at.auto.planes ∙ v.8,
      c.turn-at.auto.painted ∙ v.9,
      c.turn-at.auto.list_ids ∙ v.10,
      c.turn-at.auto.list_covers ∙ v.11,
      c.turn-at.auto.list_flags ∙ v.12,
      c.turn-at.auto.list_unmasked ∙ v.13,
      λ e.
          let one_more : c.turn-at.result.state.next ≡ l.at.state.next + 1 = ap (λ (x : State). x.next) given.state ∙ after.one_more (sym given.verdict ∙ e) in
          rw one_more (next_start _ l.at.state.next a.row.now v.0.stands.words v.0.stands.ascends (start_is worked) own),
    )

pub shape_of-a_ids : goal.shape_of-a_ids
shape_of-a_ids c = c.loop-room.invariant.1

pub shape_of-a_covers : goal.shape_of-a_covers
shape_of-a_covers c = c.loop-room.invariant.2

pub shape_of-b_ids : goal.shape_of-b_ids
shape_of-b_ids c = c.loop-room.invariant.3

pub shape_of-b_covers : goal.shape_of-b_covers
shape_of-b_covers c = c.loop-room.invariant.4

pub shape_of-kept : goal.shape_of-kept
shape_of-kept c = c.loop-room.invariant.5

pub shape_of-told : goal.shape_of-told
shape_of-told c = c.loop-room.invariant.6

pub shape_of-bottoms : goal.shape_of-bottoms
shape_of-bottoms c = c.loop-room.invariant.7

pub shape_of-planes : goal.shape_of-planes
shape_of-planes c = c.loop-room.invariant.8

pub shape_of-painted : goal.shape_of-painted
shape_of-painted c = c.loop-room.invariant.9

pub returns : goal.returns
returns c =
    let a = c.args in
    let l = c.loop-room in
    let rest = rest_ended (judgement_in l.at.verdict) (row_of (goal.at.returns c).Start) a.room a.tiles (standAt (goal.at.returns c).At-loop-room) (sym c.goes_on.ensures ∙ c.loop-room-test.false) in
    let first = ap (λ (x : Standing). tiles_from (row_of (goal.at.returns c).Start) a.room a.tiles (batch_in x (lent_of (goal.at.returns c).Start))) c.started-at.ensures in
    ends_batch l.at (held_at (goal.at.returns c).At-loop-room) a.tiles _ c.ended.ensures (sym rest ∙ (going (goal.at.returns c).At-loop-room).rest ∙ first)
