-- `PixelSegment::new` meets its contract. Assumes nothing.
use Rattle.laws.proofs.Prelude.{to_z-of_z}
use Rattle.pixel_segment.proofs.PixelSegment.new.Goals as goal

pub returns : goal.returns
returns c = let f = c.ranges in rw (to_z-of_z f.tile_x, to_z-of_z f.tile_y, to_z-of_z f.cover) at c.new_in.ensures
