-- The cases of specs/Edges, computed. Assumes nothing.
use Rattle.laws.proofs.Prelude.{refl, over}
use Rattle.pixel_segment.specs.Field.{tile_of, cover_of}
use Rattle.cover_statements.specs.Carry.{is_light, carry_of}
use Rattle.cover_statements.specs.Area.{areas_of}
use Rattle.segment_set_statements.specs.Set.{begin_verdict, take_verdict, loads_from}
use Rattle.ffi_sets.specs.Edges.{PlaceEdges}

pub place_edges : PlaceEdges
unfolding areas_of begin_verdict carry_of cover_of is_light loads_from over take_verdict tile_of
place_edges =
    record {
      begun_place = refl;
      own = refl;
      other_layer = refl;
      other_x = refl;
      other_y = refl;
      no_layer = refl;
      no_tile = refl;
      no_row = refl;
    }
