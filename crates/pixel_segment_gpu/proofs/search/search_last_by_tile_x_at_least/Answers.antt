-- `search::search_last_by_tile_x_at_least` meets its contract. Assumes nothing.
use Rattle.laws.proofs.Prelude.{to_z-of_z}
use Rattle.pixel_segment_gpu.proofs.search.search_last_by_tile_x_at_least.Goals as goal

pub returns : goal.returns
returns c = rw (c.search_last_by_tile_x_at_least_in.ensures, to_z-of_z c.ranges.start)
