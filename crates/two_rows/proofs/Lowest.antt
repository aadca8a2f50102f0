-- The example of specs/Lowest, computed. Assumes nothing.
use Rattle.std.specs.Prelude.{◌≡◌, None, Ok}
use Rattle.laws.proofs.Prelude.{refl, ap, sym, ◌∙◌, true, false, false≢true, List, map, ℕ, arith, Float, nan, odd, nat_abs, get_or, given, over}
use Rattle.pixel_segment.specs.Field.{cover_of, double_area_of, tile_of}
use Rattle.pixel_segment.specs.Opposite.{opposite_of}
use Rattle.pixel_segment.specs.Pack.{with_cover}
use Rattle.segment_rows.specs.Rows.{Words, ascends_from}
use Rattle.segment_rows.specs.Search.{halved, search_of, left_part}
use Rattle.styling.specs.Ascending.{strictly_ascends_from}
use Rattle.layer_table.specs.Lookup.{lookup}
use Rattle.layer_table.specs.Table.{is_table_short, is_valid, is_table, layer_at, table_of}
use Rattle.cover_statements.specs.Area.{doubled_area}
use Rattle.cover_statements.specs.Carry.{is_light}
use Rattle.cover_statements.specs.Cover.{cover_at}
use Rattle.cover_statements.specs.Coverage.{coverage_of}
use Rattle.cover_statements.specs.Entry.{cover_entry}
use Rattle.cover_statements.specs.Plane.{in_places}
use Rattle.cover_statements.specs.WholeRow.{left_cover}
use Rattle.cover_statements.proofs.Floats.{same_float}
use Rattle.queue_statements.specs.Queue.{Carry, queue_of, held_in, covers_in}
use Rattle.queue_statements.specs.Opening.{add_to, add_all, open_queue, is_light_opening}
use Rattle.queue_statements.specs.Opposite.{opposite_carry}
use Rattle.row_statements.specs.Example.{room}
use Rattle.row_statements.specs.Lent.{Columns, carries_in, queue_over}
use Rattle.row_statements.specs.State.{state_in}
use Rattle.row_statements.specs.Opening.{OpenCall, left_of, open_verdict, open_count, open_of, OpensRow}
use Rattle.row_statements.specs.Due.{plane_on}
use Rattle.row_statements.specs.Run.{open_row}
use Rattle.row_statements.specs.declared.RowState.{RowState}
use Rattle.row_statements.proofs.Example.{small}
use Rattle.two_rows.specs.Backwards.{opposite_call, BackOpening}
use Rattle.two_rows.specs.Lowest.{lowest_call, Fails}

in_words : Words lowest_call.row
in_words = record { small = λ i. small i lowest_call.row refl }

first : RowState
first = record { tile_y = 0; from = 0; to = 1; next = 0; left = 1; taken = 0; clip = None }

held : OpenCall → Columns
held c = queue_over (open_queue (left_of c)) (room 256)

counted : open_count (open_verdict lowest_call (room 256)) (left_of lowest_call) ≡ given 1
unfolding open_verdict is_table_short is_valid is_table strictly_ascends_from ascends_from layer_at is_light_opening is_light add_to add_all cover_of left_part search_of halved tile_of
counted = refl

counted_back : open_count (open_verdict (opposite_call lowest_call) (room 256)) (left_of (opposite_call lowest_call)) ≡ given 1
unfolding open_verdict is_table_short is_valid is_table strictly_ascends_from ascends_from layer_at is_light_opening is_light add_to add_all cover_of left_part search_of halved tile_of opposite_of with_cover
counted_back = refl

opens : OpensRow (open_of lowest_call (room 256)) (Ok first) (held lowest_call)
unfolding first held open_of
opens = rw counted (record { answer = refl; lent_is = refl })

opens_back : OpensRow (open_of (opposite_call lowest_call) (room 256)) (Ok first) (held (opposite_call lowest_call))
unfolding first held open_of
opens_back = rw counted_back (record { answer = refl; lent_is = refl })

-- the carry of pixel row 0: -63 in place of 1
carried : (nat_abs (cover_at (held_in (carries_in 1 (held (opposite_call lowest_call))) 5) 0) ≡ 63) × (nat_abs (cover_at (held_in (map opposite_carry (carries_in 1 (held lowest_call))) 5) 0) ≡ 1)
unfolding held over queue_of covers_in cover_entry held_in add_to add_all cover_of left_part search_of halved tile_of opposite_of with_cover
carried = (refl, refl)

carries_apart : BackOpening (state_in first) (state_in first) (held lowest_call) (held (opposite_call lowest_call)) → ⊥
unfolding first
carries_apart b =
    let z : ◌≡◌ {A = ℕ} 63 1 = sym carried.0 ∙ ap (λ (q : List Carry). nat_abs (cover_at (held_in q 5) 0)) b.carries ∙ carried.1 in
    omega arith

-- the coverage of the first pixel: 1 in place of 1/16
shaded : (same_float (get_or (plane_on (open_row (opposite_call lowest_call)) 0 5) 0 nan) (coverage_of 512) ≡ true) × (same_float (get_or (plane_on (open_row lowest_call) 0 5) 0 nan) (coverage_of 512) ≡ false)
unfolding in_places doubled_area left_cover coverage_of odd cover_of double_area_of lookup table_of layer_at opposite_of with_cover
shaded = (refl, refl)

planes_apart : plane_on (open_row (opposite_call lowest_call)) 0 5 ≡ plane_on (open_row lowest_call) 0 5 → ⊥
planes_apart e = false≢true (sym shaded.1 ∙ sym (ap (λ (l : List Float). same_float (get_or l 0 nan) (coverage_of 512)) e) ∙ shaded.0)

pub fails : Fails
unfolding cover_of opposite_of with_cover
fails =
    record {
      covers = (refl, refl);
      words = in_words;
      state = first;
      back = held lowest_call;
      back' = held (opposite_call lowest_call);
      opens = opens;
      opens' = opens_back;
      carries_differ = carries_apart;
      planes_differ = planes_apart;
    }
