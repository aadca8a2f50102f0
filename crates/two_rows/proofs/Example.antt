-- The example of specs/Example, computed. Assumes nothing.
use Rattle.std.specs.Prelude.{◌≡◌}
use Rattle.laws.proofs.Prelude.{refl, ap, ◌∙◌, arith, eq, of_bits, replicate}
use Rattle.pixel_segment.specs.Field.{cover_of, double_area_of, tile_of}
use Rattle.segment_rows.specs.Rows.{ascends_from}
use Rattle.segment_rows.specs.Search.{halved, search_of, left_part, tile_part, layer_part}
use Rattle.layer_table.specs.Lookup.{lookup}
use Rattle.layer_table.specs.Table.{layer_at, table_of}
use Rattle.cover_statements.specs.Area.{doubled_area}
use Rattle.cover_statements.specs.Cover.{is_empty, is_full}
use Rattle.cover_statements.specs.Coverage.{coverage_of}
use Rattle.cover_statements.specs.Mark.{mark_of}
use Rattle.cover_statements.specs.Plane.{in_places}
use Rattle.cover_statements.specs.WholeRow.{left_cover}
use Rattle.cover_statements.proofs.Marks.{mark_full}
use Rattle.queue_statements.specs.Queue.{held_in}
use Rattle.queue_statements.specs.Opening.{add_to, add_all}
use Rattle.tile_layers.specs.Groups.{groups_of}
use Rattle.tile_layers.specs.Listing.{list_of}
use Rattle.pass_statements.specs.Clips.{step_of, clips_from}
use Rattle.pass_statements.specs.Covered.{covered_from}
use Rattle.pass_statements.specs.Decide.{shown_from, outcome_of}
use Rattle.pass_statements.specs.Rules.{latest_clip}
use Rattle.layer_workbench.specs.Work.{outcome_by_entries}
use Rattle.row_carries.specs.Carries.{InOrder, queue_after}
use Rattle.row_carries.proofs.Planes.{full_ones}
use Rattle.row_statements.specs.Due.{table_on, plane_on}
use Rattle.row_statements.proofs.Example.{small}
use Rattle.two_rows.specs.Example.{among, Differing}

in_order : InOrder 1 among.row
unfolding ascends_from
in_order = record { words = record { small = λ i. small i among.row refl }; is_row_lem = refl }

-- layer 5 is full in the second row
ones : plane_on among 0 5 ≡ replicate 256 (coverage_of 512)
unfolding cover_of tile_of halved search_of left_part tile_part lookup layer_at table_of is_full add_to add_all groups_of list_of queue_after
ones = full_ones in_order (table_on among) 0 0 1 (omega arith) refl

pub differing : Differing
unfolding cover_of double_area_of tile_of halved search_of left_part tile_part layer_part lookup layer_at table_of doubled_area is_empty is_full in_places left_cover held_in add_to add_all groups_of list_of step_of clips_from covered_from shown_from outcome_of latest_clip outcome_by_entries queue_after eq of_bits
differing =
    record {
      agree = record { first = refl; segments = λ v. refl; rule = refl };
      changed = (refl, refl);
      masks = (refl, refl);
      skips = (refl, refl);
      decisions = (refl, refl);
      marks = (refl, ap mark_of ones ∙ mark_full);
    }
