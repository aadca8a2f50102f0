-- The edges of specs/Edges, computed. Assumes nothing.
use Rattle.laws.proofs.Prelude.{refl}
use Rattle.pixel_segment.specs.Pack.{is_packable}
use Rattle.pixel_segment.specs.Edges.{Edges}

pub edges : Edges
unfolding is_packable
edges =
    record {
      tile_y_below = refl;
      tile_y_lowest = refl;
      tile_y_highest = refl;
      tile_y_above = refl;
      tile_y_far_above = refl;
      tile_x_far_below = refl;
      tile_x_below = refl;
      tile_x_lowest = refl;
      tile_x_highest = refl;
      tile_x_above = refl;
      tile_x_far_above = refl;
      layer_below = refl;
      layer_lowest = refl;
      layer_highest = refl;
      layer_above = refl;
      layer_far_above = refl;
      local_x_below = refl;
      local_x_lowest = refl;
      local_x_highest = refl;
      local_x_above = refl;
      local_y_below = refl;
      local_y_lowest = refl;
      local_y_highest = refl;
      local_y_above = refl;
      multiplier_below = refl;
      multiplier_lowest = refl;
      multiplier_highest = refl;
      multiplier_above = refl;
      cover_below = refl;
      cover_lowest = refl;
      cover_highest = refl;
      cover_above = refl;
      all_lowest = refl;
      all_highest = refl;
    }
