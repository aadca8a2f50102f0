-- The run of specs/Example. Assumes nothing.
use Rattle.std.specs.Prelude.{◌≡◌, ◌∷◌, ◌^◌, ◌<◌, None, Ok}
use Rattle.laws.proofs.Prelude.{refl, ◌∙◌, true, List, [], ℕ, zero, suc, arith, ltb-true, ltb, eq, odd, of_bits, get_or, given, all}
use Rattle.laws.proofs.Prelude.{left, right}
use Rattle.refusals.specs.Refusal.{pass, refuse}
use Rattle.pixel_segment.specs.Field.{cover_of, tile_of}
use Rattle.segment_rows.specs.Rows.{Words, ascends_from}
use Rattle.segment_rows.specs.Search.{halved, search_of, left_part, tile_part, layer_part}
use Rattle.styling.specs.Ascending.{strictly_ascends_from}
use Rattle.layer_table.specs.Lookup.{lookup}
use Rattle.layer_table.specs.Table.{is_table_short, is_valid, is_table, layer_at, table_of}
use Rattle.cover_statements.specs.Carry.{is_light, carry_of}
use Rattle.cover_statements.specs.Cover.{is_empty, is_full}
use Rattle.queue_statements.specs.Queue.{is_queue, ids_in, held_in}
use Rattle.queue_statements.specs.Opening.{add_to, add_all, open_queue, is_light_opening}
use Rattle.tile_layers.specs.Groups.{groups_of}
use Rattle.tile_layers.specs.Listing.{list_of}
use Rattle.layer_carrying.specs.Carrying.{handed_on}
use Rattle.pass_statements.specs.Clips.{step_of, clips_from}
use Rattle.pass_statements.specs.Covered.{covered_from}
use Rattle.pass_statements.specs.Decide.{shown_from, outcome_of}
use Rattle.layer_workbench.specs.Work.{outcome_by_entries}
use Rattle.row_carries.specs.Carries.{queue_after}
use Rattle.row_statements.specs.Lent.{Columns, queue_over}
use Rattle.row_statements.specs.Opening.{left_of, open_verdict, open_count, open_of, OpensRow}
use Rattle.row_statements.specs.TileWork.{args_verdict, list_verdict}
use Rattle.row_statements.specs.Painting.{call_verdict}
use Rattle.row_statements.specs.Due.{at_first, queue_on}
use Rattle.row_statements.specs.Run.{open_row}
use Rattle.row_statements.specs.Example.{row, call, room, choices, choices_due, Ran}
use Rattle.row_statements.specs.declared.RowState.{RowState}
use Rattle.row_statements.proofs.Run.{accepted, is_open, held_first_lem}
use Rattle.row_statements.proofs.Runs.{exists}

-- ---- the row has words of 64 bits

pub small : (i : ℕ) (l : List ℕ) → all (λ w. ltb w (2 ^ 64)) l ≡ true → get_or l i 0 < 2 ^ 64
small i [] h = omega arith
small zero (w ∷ l) h = ltb-true w (2 ^ 64) (left (ltb w (2 ^ 64)) (all (λ v. ltb v (2 ^ 64)) l) h)
small (suc i) (w ∷ l) h = small i l (right (ltb w (2 ^ 64)) (all (λ v. ltb v (2 ^ 64)) l) h)

in_words : Words row
in_words = record { small = λ i. small i row refl }

-- ---- the opening

first : RowState
first = record { tile_y = 0; from = 0; to = 2; next = 0; left = 4; taken = 0; clip = None }

held : Columns
held = queue_over (open_queue (left_of call)) (room 256)

counted : open_count (open_verdict call (room 256)) (left_of call) ≡ given 4
unfolding open_verdict is_table_short is_valid is_table strictly_ascends_from ascends_from layer_at is_light_opening is_light add_to add_all cover_of left_part search_of halved tile_of
counted = refl

opens : OpensRow (open_of call (room 256)) (Ok first) held
unfolding first held open_of
opens = rw counted (record { answer = refl; lent_is = refl })

-- ---- the calls

due : choices_due (open_row call) at_first choices
    ≡ refuse 2 ∷ refuse 1 ∷ refuse 6 ∷ pass ∷ refuse 8 ∷ pass ∷ refuse 3 ∷ refuse 4 ∷ refuse 5 ∷ pass ∷ refuse 3 ∷ refuse 4 ∷ refuse 5 ∷ pass ∷ refuse 2 ∷ pass ∷ []
unfolding choices_due args_verdict call_verdict is_table_short is_valid is_table strictly_ascends_from ascends_from is_queue list_verdict list_of groups_of handed_on queue_after add_to add_all left_part tile_part layer_part search_of halved lookup table_of layer_at is_light carry_of is_empty held_in cover_of tile_of
due = refl

lost : (ids_in (queue_on (open_row call) 0) ≡ 1 ∷ 2 ∷ 3 ∷ 4 ∷ []) × (ids_in (queue_on (open_row call) 1) ≡ 2 ∷ 3 ∷ 4 ∷ [])
unfolding list_of groups_of handed_on queue_after add_to add_all left_part tile_part search_of halved lookup table_of layer_at carry_of is_empty cover_of tile_of
lost = (refl, refl)

pub ran : Ran
unfolding outcome_by_entries outcome_of clips_from step_of covered_from shown_from is_full eq of_bits odd list_of groups_of queue_after add_to add_all left_part tile_part search_of halved lookup table_of layer_at cover_of tile_of
ran =
    let a = accepted call (room 256) held first opens in
    let r = exists (is_open call (room 256) held first in_words a) (held_first_lem call (room 256) held first in_words a) choices in
    record {
      back = held;
      state = first;
      events = r.events;
      after = r.after;
      words = in_words;
      opens = opens;
      runs = r.runs;
      dues = r.dues ∙ due;
      dropped = lost;
      skipped = refl;
    }
