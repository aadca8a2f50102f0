-- `PixelSegment::pack` meets its contract. Assumes nothing.
use Rattle.laws.proofs.Prelude.{to_z-of_z}
use Rattle.pixel_segment.proofs.PixelSegment.pack.Goals as goal

pub returns : goal.returns
returns c =
    let f = c.ranges in
    rw (
      to_z-of_z f.layer_id,
      to_z-of_z f.tile_x,
      to_z-of_z f.tile_y,
      to_z-of_z f.local_x,
      to_z-of_z f.local_y,
      to_z-of_z f.double_area_multiplier,
      to_z-of_z f.cover,
    ) at c.pack_in.ensures
