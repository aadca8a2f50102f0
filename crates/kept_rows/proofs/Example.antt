-- The history of specs/Example, by the existence of runs. Assumes nothing.
use Rattle.std.specs.Prelude.{◌≡◌, ◌∷◌, Option, None, Some, Ok}
use Rattle.laws.proofs.Prelude.{refl, Bool, true, false, cond, false≢true, List, [], ℕ, eqb, binary32, eq, odd, of_bits, pos, replicate}
use Rattle.laws.proofs.Prelude.{given, refused}
use Rattle.styling.specs.declared.Color.{Color}
use Rattle.refusals.specs.Refusal.{pass}
use Rattle.pixel_segment.specs.Field.{cover_of, tile_of}
use Rattle.segment_rows.specs.Rows.{Words, ascends_from}
use Rattle.segment_rows.specs.Search.{halved, search_of, left_part, tile_part, layer_part}
use Rattle.styling.specs.Ascending.{strictly_ascends_from}
use Rattle.styling.specs.declared.Layer.{Layer}
use Rattle.layer_table.specs.Lookup.{place_from, lookup}
use Rattle.layer_table.specs.Table.{is_table_short, is_valid, is_table, layer_at, table_of, table_ids}
use Rattle.cached_tile.specs.Tile.{empty_tile, keep_color}
use Rattle.cached_tile.specs.Kept.{keep_or_write, keeps_same}
use Rattle.cached_tile.specs.declared.CachedTile.{CachedTile}
use Rattle.cover_statements.specs.Carry.{is_light, carry_of}
use Rattle.cover_statements.specs.Cover.{is_empty, is_full}
use Rattle.queue_statements.specs.Queue.{held_in}
use Rattle.queue_statements.specs.Opening.{add_to, add_all, open_queue, is_light_opening}
use Rattle.tile_layers.specs.Groups.{groups_of}
use Rattle.tile_layers.specs.Listing.{list_of}
use Rattle.layer_carrying.specs.Carrying.{rule_from, handed_on}
use Rattle.pass_statements.specs.Clips.{step_of, clips_from}
use Rattle.pass_statements.specs.Covered.{covered_from}
use Rattle.pass_statements.specs.Rules.{latest_clip}
use Rattle.pass_statements.specs.Decide.{shown_from, outcome_of}
use Rattle.layer_workbench.specs.Work.{outcome_by_entries}
use Rattle.row_carries.specs.Carries.{queue_after}
use Rattle.row_statements.specs.Lent.{Columns, queue_over}
use Rattle.row_statements.specs.Opening.{left_of, open_verdict, open_count, open_of, OpensRow}
use Rattle.row_statements.specs.TileWork.{list_verdict, work_out}
use Rattle.row_statements.specs.Due.{OpenRow, WorkChoice, work_due_verdict}
use Rattle.row_statements.specs.Run.{open_row, held_first}
use Rattle.row_statements.specs.Example.{room, list, black}
use Rattle.row_statements.specs.declared.RowState.{RowState}
use Rattle.row_statements.proofs.Example.{small}
use Rattle.row_statements.proofs.Runs.{held_work}
use Rattle.kept_frames.specs.Display.{Display, displayed}
use Rattle.kept_rows.specs.Along.{props_by, RowTold, ContentsTold}
use Rattle.kept_rows.specs.Shown.{WorkedTile}
use Rattle.kept_frames.specs.Picture.{strokes_from}
use Rattle.kept_rows.specs.History.{AcceptedWork, worked_of, Drawing, lent_tile, kept_if, may_keep_tile, Frame, History}
use Rattle.kept_rows.specs.Since.{marked_words, marked}
use Rattle.kept_rows.specs.Frames.{worked_count, RowFrame, RowHistory}
use Rattle.kept_rows.specs.Example.{opaque_draw, frame_call, KeptTile}
use Rattle.kept_rows.proofs.Once.{once}

in_words : Words (frame_call 0).row
in_words = record { small = λ i. small i (frame_call 0).row refl }

abbrev begun : RowState
begun = record { tile_y = 0; from = 0; to = 1; next = 0; left = 1; taken = 0; clip = None }

abbrev held : ℕ → Columns
held u = queue_over (open_queue (left_of (frame_call u))) (room 256)

counted : (open_count (open_verdict (frame_call 0) (room 256)) (left_of (frame_call 0)) ≡ given 1) × (open_count (open_verdict (frame_call 1) (room 256)) (left_of (frame_call 1)) ≡ given 1)
unfolding open_verdict is_table_short is_valid is_table strictly_ascends_from ascends_from layer_at is_light_opening is_light add_to add_all cover_of left_part search_of halved tile_of
counted = (refl, refl)

opens_first : OpensRow (open_of (frame_call 0) (room 256)) (Ok begun) (held 0)
unfolding open_of
opens_first = rw counted.0 (record { answer = refl; lent_is = refl })

opens_second : OpensRow (open_of (frame_call 1) (room 256)) (Ok begun) (held 1)
unfolding open_of
opens_second = rw counted.1 (record { answer = refl; lent_is = refl })

abbrev chosen : CachedTile → Option Color → WorkChoice
chosen k p = record { tile = pos 0; kept = lent_tile k; clear = black; previous = p; queue = room 256; lent = record { queue = room 256; list = list } }

first_passes : work_due_verdict (open_row (frame_call 0)) 0 (held_work (held_first begun (held 0)) (chosen empty_tile None)) ≡ pass
unfolding list_verdict list_of groups_of handed_on queue_after add_to add_all left_part tile_part layer_part search_of halved lookup table_of layer_at is_light carry_of is_empty held_in cover_of tile_of
first_passes = refl

abbrev first_work : AcceptedWork
first_work = once (frame_call 0) (room 256) (held 0) begun in_words opens_first [] (chosen empty_tile None) first_passes

-- the tile after the first frame, its four bytes settled
abbrev bytes : List ℕ
bytes = 255 ∷ 255 ∷ 255 ∷ 255 ∷ []

abbrev settled_tile : CachedTile
settled_tile = keep_color first_work.done.after.tile bytes

abbrev second : WorkedTile
second = record { row = open_row (frame_call 1); revisions = []; place = 0; clear = black }

abbrev kept_tile : CachedTile
kept_tile = kept_if (may_keep_tile (worked_of first_work) second) settled_tile

second_passes : work_due_verdict (open_row (frame_call 1)) 0 (held_work (held_first begun (held 1)) (chosen kept_tile (Some black))) ≡ pass
unfolding work_out outcome_by_entries outcome_of clips_from step_of covered_from shown_from latest_clip strokes_from is_full eq of_bits odd list_verdict list_of groups_of handed_on queue_after add_to add_all left_part tile_part layer_part search_of halved lookup table_of layer_at is_light carry_of is_empty held_in cover_of tile_of
second_passes = refl

abbrev second_work : AcceptedWork
second_work = once (frame_call 1) (room 256) (held 1) begun in_words opens_second [] (chosen kept_tile (Some black)) second_passes

-- whatever the id, both tables say the same but for the flag
told : RowTold (open_row (frame_call 0)) (open_row (frame_call 1))
unfolding lookup table_of layer_at
told id c = record { agree = record { first = refl; segments = λ v. refl; rule = rules (eqb 1 id) }; props = props (eqb 1 id) }
  where
    layer : ℕ → Layer
    layer u = layer_at (opaque_draw u) (replicate 4 (of_bits binary32 0x3F800000)) 0

    rules : (t : Bool) → rule_from (cond t (given (layer 0)) (refused 8)) ≡ rule_from (cond t (given (layer 1)) (refused 8))
    rules true = refl
    rules false = refl

    props : (t : Bool) → props_by (cond t (given (layer 0)) (refused 8)) ≡ props_by (cond t (given (layer 1)) (refused 8))
    props true = refl
    props false = refl

-- and every layer holds what it held
told_contents : ContentsTold (open_row (frame_call 0)) [] (open_row (frame_call 1)) []
unfolding table_ids
told_contents id c = refl

-- the flags as they are worked out; before the first frame stands a row of nothing
abbrev no_row : OpenRow
no_row = record { tile_y = 0; from = 0; to = 1; row = []; table = record { words = []; floats = []; count = 0 } }

marked_first : open_row (frame_call 0) ≡ marked no_row [] (open_row (frame_call 0)) []
unfolding marked_words table_ids place_from
marked_first = refl

marked_second : open_row (frame_call 1) ≡ marked (open_row (frame_call 0)) [] (open_row (frame_call 1)) []
unfolding marked_words table_ids place_from of_bits odd
marked_second = refl

pub kept_tile_lem : KeptTile
unfolding worked_count work_out outcome_by_entries outcome_of clips_from step_of covered_from shown_from latest_clip strokes_from is_full eq of_bits odd list_of groups_of handed_on queue_after add_to add_all left_part tile_part layer_part search_of halved lookup table_of layer_at is_light carry_of is_empty held_in cover_of tile_of list_verdict
kept_tile_lem =
    record {
      first = first_work;
      second = second_work;
      calls = (refl, refl);
      decided = refl;
      tile = second_work.done.after.tile;
      display = displayed (keep_or_write (keeps_same first_work.done.after.tile bytes)) bytes Display.other;
      history =
          History.next
          (History.next History.begins (Frame.first {d = Display.other} first_work refl refl (Drawing.settles bytes)))
          (Frame.again second_work refl (record { flags = told; contents = told_contents }) refl Drawing.leaves);
      in_row_lem =
          RowHistory.next
          (RowHistory.next (RowHistory.begins {l = record { row = no_row; revisions = []; clear = black; worked = 0 }})
          (RowFrame.works {d = Display.other} false (open_row (frame_call 0)) first_work (true ∷ []) refl marked_first (λ e z. absurd (false≢true e)) refl tt (Drawing.settles bytes)))
          (RowFrame.works true (open_row (frame_call 1)) second_work (true ∷ []) refl marked_second (λ e z. refl) refl refl Drawing.leaves);
    }
