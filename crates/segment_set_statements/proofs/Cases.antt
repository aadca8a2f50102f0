-- The cases of specs/Edges, computed. Assumes nothing.
use Rattle.laws.proofs.Prelude.{refl, over}
use Rattle.pixel_segment.specs.Field.{tile_of, cover_of, double_area_of}
use Rattle.cover_statements.specs.Area.{doubled_area, areas_of}
use Rattle.cover_statements.specs.Carry.{is_light, carry_of}
use Rattle.segment_set_statements.specs.Effect.{effect_of, carry_after, wrap}
use Rattle.segment_set_statements.specs.Set.{begin_verdict, take_verdict, let_verdict, held_of, loads_from}
use Rattle.segment_set_statements.specs.Edges.{SetEdges}

pub set_edges : SetEdges
unfolding areas_of begin_verdict carry_after carry_of cover_of double_area_of doubled_area effect_of held_of is_light let_verdict loads_from over take_verdict tile_of wrap
set_edges =
    record {
      own_column = refl;
      past_column = refl;
      left_column = refl;
      other_row = refl;
      area_with = refl;
      carry_with = refl;
      last_slot = refl;
      no_slot = refl;
      held = refl;
      let_out_before = refl;
      nothing_held = refl;
      light = refl;
      heavy = refl;
      heavy_and_full = refl;
      one_more = refl;
      no_cover = refl;
      right_taken = refl;
      below_taken = refl;
      right_let_out = refl;
      below_let_out = refl;
      foreign_taken = refl;
      foreign_let_out = refl;
      short = refl;
      begin_nothing = refl;
      begin_full = refl;
      begin_more = refl;
      begin_light = refl;
      begin_heavy = refl;
      begin_127 = refl;
      begin_128 = refl;
      begin_other_layer = refl;
      begin_other_x = refl;
      begin_other_y = refl;
      begin_short = refl;
      begun_slots = refl;
      begun_left = refl;
      begun_own = refl;
      begun_past = refl;
      begun_carry = refl;
      begun_loads = refl;
      begun_count = refl;
    }
