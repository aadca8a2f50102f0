-- The edges of specs/Edges, computed. Assumes nothing.
use Rattle.laws.proofs.Prelude.{refl}
use Rattle.pixel_segment.specs.Field.{cover_of, double_area_of}
use Rattle.pixel_segment.specs.Pack.{is_packable}
use Rattle.segment_rows.specs.Search.{halved, search_of}
use Rattle.pixel_segment_gpu.specs.Edges.{Edges}

pub edges : Edges
unfolding is_packable cover_of double_area_of search_of halved
edges =
    record {
      whole = refl;
      cover_minus_1 = refl;
      area_minus_32 = refl;
      tile_y_below = refl;
      tile_y_lowest = refl;
      tile_y_2047 = refl;
      tile_y_highest = refl;
      tile_y_above = refl;
      tile_x_above = refl;
      local_y_above = refl;
      layer_above = refl;
      all_highest = refl;
      another = refl;
      key = refl;
      other_fields = refl;
      compare_equal = refl;
      layer_3 = refl;
      layer_0 = refl;
      layer_4 = refl;
      layer_9 = refl;
      no_words = refl;
    }
