-- `search::search_last_by_layer_id` meets its contract: that of the function over the layout. Assumes nothing.
use Rattle.pixel_segment_gpu.proofs.search.search_last_by_layer_id.Goals as goal

pub returns : goal.returns
returns c = c.search_last_by_layer_id_in.ensures
