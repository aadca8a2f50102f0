-- The run of specs/LayerExample. Assumes nothing.
use Rattle.std.specs.Prelude.{◌≡◌, ◌∷◌, ◌+◌, Ok, Err}
use Rattle.laws.proofs.Prelude.{refl, sym, ap, subst, ◌∙◌, List, [], ℕ, lit≤, ℤ, pos, replicate}
use Rattle.refusals.specs.Refusal.{Judgement, pass, refuse, number_of}
use Rattle.refusals.specs.declared.Refusal.{Refusal}
use Rattle.refusals.specs.declared.Refusal.TheVariants.{Room, Tile, Row, Covers}
use Rattle.pixel_segment.specs.Field.{cover_of}
use Rattle.segment_rows.specs.Rows.{ascends_from}
use Rattle.styling.specs.declared.FillRule.TheVariants.{EvenOdd}
use Rattle.cover_statements.specs.Carry.{is_light, carry_of}
use Rattle.cover_statements.specs.Cover.{no_cover, is_empty}
use Rattle.layer_row_gpu.specs.LayerState.{LayerState, layer_state_in, layer_tile, past_tile}
use Rattle.layer_row_gpu.specs.OpenLayer.{open_layer_verdict, call_verdict_of, opened_state, OpensLayer}
use Rattle.layer_row_gpu.specs.WorkLayer.{LayerChoice, work_layer_verdict, worked_by}
use Rattle.layer_row_gpu.specs.WorkTiles.{refused, TilesChoice, tiles_verdict, TilesGiven, tiles_given_by, work_tiles_of}
use Rattle.layer_row_gpu.specs.LayerDue.{cover_on, layer_state_on, layer_due_verdict, TilesDue, tiles_due, tiles_due_verdict, tiles_out, work_tiles_due}
use Rattle.layer_row_gpu.specs.LayerRun.{WorkEvent, RangeEvent, LayerEvent, RightLayer, RightRange, Went, RangeWent, LayerStep, LayerRun}
use Rattle.layer_row_gpu.specs.LayerExample.{call_of_one, short_plane, descending_row, first_tile, second_tile, range_from, layer_dues, choices_of_one, LayerRan}
use Rattle.layer_row_gpu.specs.declared.LayerRow.{LayerRow}
use Rattle.layer_row_gpu.specs.declared.OpenedLayer.{OpenedLayer}
use Rattle.layer_row_gpu.specs.declared.tiles.Ended.TheVariants.{Refused}
use Rattle.layer_row_gpu.proofs.Verdicts.{open_passed}
use Rattle.layer_row_gpu.proofs.Ranges.{tiles_given}

-- ---- a call, by its verdict

abbrev verdict_at : LayerRow → LayerChoice → Judgement
verdict_at s choice = work_layer_verdict (layer_state_in s) choice.tile choice.row choice.plane

abbrev turned_down : LayerRow → LayerChoice → Refusal → WorkEvent
turned_down s choice r = record { choice = choice; result = record { answer = Err r; state = s }; back = choice.plane }

abbrev worked : LayerRow → LayerRow → LayerChoice → WorkEvent
worked s next choice = record { choice = choice; result = record { answer = Ok tt; state = next }; back = (worked_by pass (layer_state_in s) choice).plane }

went_down : (s : LayerRow) (choice : LayerChoice) (r : Refusal) → verdict_at s choice ≡ refuse (number_of r) → Went (layer_state_in s) (turned_down s choice r)
went_down s choice r e =
    subst (λ (j : Judgement). RightLayer (worked_by j (layer_state_in s) choice) (turned_down s choice r)) (sym e) (record { answer = refl; state_is = refl; plane_is = refl })

went_on : (s next : LayerRow) (choice : LayerChoice) → verdict_at s choice ≡ pass → layer_state_in next ≡ past_tile (layer_state_in s) (layer_tile (layer_state_in s) choice.tile choice.row) → Went (layer_state_in s) (worked s next choice)
went_on s next choice e is =
    subst (λ (j : Judgement). RightLayer (worked_by j (layer_state_in s) choice) (worked s next choice)) (sym e) (record { answer = refl; state_is = is; plane_is = refl })

abbrev range_down : LayerRow → TilesChoice → Refusal → RangeEvent
range_down s choice r = record { choice = choice; result = record { answer = Err r; worked = 0; ended = Refused r; state = s }; back = choice.planes }

range_down_lem : (s : LayerRow) (choice : TilesChoice) (r : Refusal) → tiles_verdict (layer_state_in s) choice ≡ refuse (number_of r) → RangeWent (layer_state_in s) (range_down s choice r)
range_down_lem s choice r e =
    subst (λ (j : Judgement). RightRange (tiles_given_by j (layer_state_in s) choice) (range_down s choice r)) (sym e)
    (record { answer = refl; worked_is = refl; ended_is = refl; state_is = refl; planes_are = refl })

-- ---- the states before tiles 0, 1 and 2

abbrev state_with : ℕ → List ℤ → LayerRow
state_with next covers = record { tile_y = 0; from = 0; to = 3; next = next; layer_id = 1; rule = EvenOdd; cover = record { covers = covers } }

abbrev before : LayerRow
before = state_with 0 (pos 16 ∷ pos 0 ∷ pos 0 ∷ pos 0 ∷ [])

abbrev past : LayerRow
past = state_with 1 (replicate 4 (pos 0))

abbrev last : LayerRow
last = state_with 2 (replicate 4 (pos 0))

-- ---- the opening

passes : call_verdict_of call_of_one ≡ pass
unfolding open_layer_verdict ascends_from is_light cover_of no_cover
passes = refl

abbrev opened : OpenedLayer
opened = record { answer = Ok tt; state = before }

first_is : layer_state_in before ≡ opened_state pass call_of_one
unfolding carry_of cover_of no_cover
first_is = refl

opens : OpensLayer call_of_one opened
opens = record { answer = sym passes; state_is = first_is ∙ ap (λ (j : Judgement). opened_state j call_of_one) (sym passes) }

-- ---- the calls

too_short : verdict_at before short_plane ≡ refuse 1
unfolding work_layer_verdict
too_short = refl

too_early : verdict_at before second_tile ≡ refuse 2
unfolding work_layer_verdict
too_early = refl

descends : verdict_at before descending_row ≡ refuse 3
unfolding work_layer_verdict ascends_from
descends = refl

accepted : verdict_at before first_tile ≡ pass
unfolding work_layer_verdict ascends_from is_light cover_of
accepted = refl

past_is : layer_state_in past ≡ past_tile (layer_state_in before) (layer_tile (layer_state_in before) first_tile.tile first_tile.row)
unfolding carry_of is_empty no_cover cover_of
past_is = refl

again : verdict_at past first_tile ≡ refuse 2
unfolding work_layer_verdict
again = refl

-- the range, by the theorem
past_on : layer_state_in past ≡ layer_state_on call_of_one 1
unfolding cover_on carry_of is_empty no_cover cover_of
past_on = refl

last_on : layer_state_in last ≡ layer_state_on call_of_one 2
unfolding cover_on carry_of is_empty no_cover cover_of
last_on = refl

abbrev tile_one : TilesChoice
tile_one = range_from (pos 1)

one_due : tiles_due call_of_one 1 tile_one 5 0 ≡ record { worked = 1; ended = refused 9 }
unfolding tiles_due layer_due_verdict cover_on ascends_from is_light carry_of is_empty no_cover cover_of
one_due = refl

one_accepted : tiles_due_verdict call_of_one 1 tile_one ≡ pass
unfolding layer_due_verdict cover_on ascends_from is_light carry_of is_empty no_cover cover_of
one_accepted = refl

one_given : work_tiles_of (layer_state_in past) tile_one ≡ tiles_out pass call_of_one 1 tile_one
one_given =
    ap (λ (s : LayerState). work_tiles_of s tile_one) past_on
    ∙ tiles_given call_of_one (open_passed call_of_one passes) 1 (lit≤ tt) tile_one (λ v. refl)
    ∙ ap (λ (j : Judgement). tiles_out j call_of_one 1 tile_one) one_accepted

abbrev ranged : RangeEvent
ranged =
    record {
      choice = tile_one;
      result = record { answer = Ok tt; worked = 1; ended = Refused Covers; state = last };
      back = (tiles_out pass call_of_one 1 tile_one).planes;
    }

range_went : RangeWent (layer_state_in past) ranged
range_went =
    subst (λ (g : TilesGiven). RightRange g ranged) (sym one_given)
    (record {
      answer = refl;
      worked_is = ap (λ (d : TilesDue). d.worked) (sym one_due);
      ended_is = ap (λ (d : TilesDue). d.ended) (sym one_due);
      state_is = last_on ∙ ap (λ (d : TilesDue). layer_state_on call_of_one (1 + d.worked)) (sym one_due);
      planes_are = refl;
    })

too_heavy : tiles_verdict (layer_state_in last) (range_from (pos 2)) ≡ refuse 9
unfolding work_layer_verdict ascends_from is_light cover_of
too_heavy = refl

not_next : tiles_verdict (layer_state_in last) tile_one ≡ refuse 2
unfolding work_layer_verdict
not_next = refl

abbrev events : List LayerEvent
events =
    LayerEvent.one (turned_down before short_plane Room) ∷ LayerEvent.one (turned_down before second_tile Tile) ∷ LayerEvent.one (turned_down before descending_row Row)
    ∷ LayerEvent.one (worked before past first_tile) ∷ LayerEvent.one (turned_down past first_tile Tile) ∷ LayerEvent.range ranged
    ∷ LayerEvent.range (range_down last (range_from (pos 2)) Covers) ∷ LayerEvent.range (range_down last tile_one Tile) ∷ []

runs : LayerRun call_of_one (layer_state_in before) events (layer_state_in last)
runs =
    LayerRun.next (LayerStep.work refl (went_down before short_plane Room too_short))
    (LayerRun.next (LayerStep.work refl (went_down before second_tile Tile too_early))
    (LayerRun.next (LayerStep.other {number = 3} descends (went_down before descending_row Row descends))
    (LayerRun.next (LayerStep.work refl (went_on before past first_tile accepted past_is))
    (LayerRun.next (LayerStep.work refl (went_down past first_tile Tile again))
    (LayerRun.next (LayerStep.range refl range_went)
    (LayerRun.next (LayerStep.range refl (range_down_lem last (range_from (pos 2)) Covers too_heavy))
    (LayerRun.next (LayerStep.other_range {number = 2} not_next (range_down_lem last tile_one Tile not_next))
    LayerRun.none)))))))

due : layer_dues call_of_one 0 choices_of_one ≡ refuse 1 ∷ refuse 2 ∷ refuse 3 ∷ pass ∷ refuse 2 ∷ pass ∷ refuse 9 ∷ refuse 2 ∷ []
unfolding layer_dues tiles_due layer_due_verdict cover_on ascends_from is_light carry_of is_empty no_cover cover_of
due = refl

range_told : ((work_tiles_due call_of_one 1 tile_one).worked ≡ 1) × ((work_tiles_due call_of_one 1 tile_one).ended ≡ refused 9)
range_told =
    let out = ap (λ (j : Judgement). tiles_out j call_of_one 1 tile_one) one_accepted in (
      ap (λ (g : TilesGiven). g.worked) out ∙ ap (λ (d : TilesDue). d.worked) one_due,
      ap (λ (g : TilesGiven). g.ended) out ∙ ap (λ (d : TilesDue). d.ended) one_due,
    )

lost : (cover_on call_of_one 0 ≡ pos 16 ∷ pos 0 ∷ pos 0 ∷ pos 0 ∷ []) × (cover_on call_of_one 1 ≡ replicate 4 (pos 0))
unfolding cover_on carry_of is_empty no_cover cover_of
lost = (refl, refl)

pub ran : LayerRan
ran =
    record {
      result = opened;
      events = events;
      after = layer_state_in last;
      accepted = passes;
      opens = opens;
      runs = runs;
      choices = refl;
      dues = due;
      ranged = range_told;
      dropped = lost;
    }
