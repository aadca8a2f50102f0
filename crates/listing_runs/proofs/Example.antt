-- The run of specs/Example. Assumes nothing.
use Rattle.std.specs.Prelude.{◌≡◌, ◌∷◌, None, Ok}
use Rattle.laws.proofs.Prelude.{refl, ◌∙◌, [], given}
use Rattle.refusals.specs.Refusal.{pass, refuse}
use Rattle.pixel_segment.specs.Field.{cover_of, tile_of}
use Rattle.segment_rows.specs.Rows.{ascends_from}
use Rattle.segment_rows.specs.Search.{halved, search_of, left_part, tile_part, layer_part}
use Rattle.styling.specs.Ascending.{strictly_ascends_from}
use Rattle.layer_table.specs.Lookup.{lookup}
use Rattle.layer_table.specs.Table.{is_table_short, is_valid, is_table, layer_at, table_of}
use Rattle.cover_statements.specs.Carry.{is_light, carry_of}
use Rattle.cover_statements.specs.Cover.{is_empty}
use Rattle.queue_statements.specs.Queue.{is_queue, held_in}
use Rattle.queue_statements.specs.Opening.{add_to, add_all, open_queue, is_light_opening}
use Rattle.tile_layers.specs.Groups.{groups_of}
use Rattle.tile_layers.specs.Listing.{list_of}
use Rattle.layer_carrying.specs.Carrying.{handed_on}
use Rattle.row_carries.specs.Carries.{queue_after}
use Rattle.row_statements.specs.Lent.{Columns, queue_over}
use Rattle.row_statements.specs.Opening.{left_of, open_verdict, open_count, open_of, OpensRow}
use Rattle.row_statements.specs.TileWork.{args_verdict, list_verdict}
use Rattle.row_statements.specs.Painting.{call_verdict}
use Rattle.row_statements.specs.Due.{at_first}
use Rattle.row_statements.specs.Run.{open_row}
use Rattle.row_statements.specs.Example.{room}
use Rattle.row_statements.specs.declared.RowState.{RowState}
use Rattle.row_statements.proofs.Run.{accepted, is_open, held_first_lem}
use Rattle.row_statements.proofs.Example as row
use Rattle.listing_statements.specs.Listing.{list_call_verdict}
use Rattle.listing_statements.specs.Deciding.{lines_for}
use Rattle.listing_runs.specs.Example.{three_tiles, listing_choices, call_choices_due, CallsRan}
use Rattle.listing_runs.proofs.Runs.{exists}

-- ---- the opening

first : RowState
first = record { tile_y = 0; from = 0; to = 3; next = 0; left = 4; taken = 0; clip = None }

held : Columns
held = queue_over (open_queue (left_of three_tiles)) (room 256)

counted : open_count (open_verdict three_tiles (room 256)) (left_of three_tiles) ≡ given 4
unfolding open_verdict is_table_short is_valid is_table strictly_ascends_from ascends_from layer_at is_light_opening is_light add_to add_all cover_of left_part search_of halved tile_of
counted = refl

opens : OpensRow (open_of three_tiles (room 256)) (Ok first) held
unfolding first held open_of
opens = rw counted (record { answer = refl; lent_is = refl })

-- ---- the calls

due : call_choices_due (open_row three_tiles) at_first listing_choices
    ≡ refuse 2 ∷ refuse 1 ∷ pass ∷ pass ∷ refuse 3 ∷ refuse 4 ∷ refuse 5 ∷ pass ∷ refuse 6 ∷ pass ∷ refuse 4 ∷ refuse 5 ∷ refuse 8 ∷ pass ∷ pass
    ∷ refuse 3 ∷ refuse 4 ∷ refuse 5 ∷ pass ∷ pass ∷ pass ∷ refuse 3 ∷ refuse 4 ∷ refuse 5 ∷ pass ∷ []
unfolding call_choices_due args_verdict call_verdict list_call_verdict lines_for is_table_short is_valid is_table strictly_ascends_from ascends_from is_queue list_verdict list_of groups_of handed_on queue_after add_to add_all left_part tile_part layer_part search_of halved lookup table_of layer_at is_light carry_of is_empty held_in cover_of tile_of
due = refl

pub ran : CallsRan
ran =
    let words = (row.ran).words in
    let a = accepted three_tiles (room 256) held first opens in
    let r = exists (is_open three_tiles (room 256) held first words a) (record { row = held_first_lem three_tiles (room 256) held first words a; lists = tt }) listing_choices in
    record {
      back = held;
      state = first;
      events = r.events;
      after = r.after;
      words = words;
      opens = opens;
      runs = r.runs;
      dues = r.dues ∙ due;
    }
