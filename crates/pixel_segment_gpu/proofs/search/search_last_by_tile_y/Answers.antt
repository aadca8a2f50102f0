-- `search::search_last_by_tile_y` meets its contract. Assumes nothing.
use Rattle.laws.proofs.Prelude.{to_z-of_z}
use Rattle.pixel_segment_gpu.proofs.search.search_last_by_tile_y.Goals as goal

pub returns : goal.returns
returns c = rw (c.search_last_by_tile_y_in.ensures, to_z-of_z c.ranges.tile_y)
