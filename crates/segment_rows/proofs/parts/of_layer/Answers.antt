-- `parts::of_layer` meets its contract. Assumes nothing.
use Rattle.segment_rows.specs.Search.{layer_part}
use Rattle.segment_rows.proofs.parts.of_layer.Goals as goal

pub returns : goal.returns
unfolding layer_part
returns c = c.of_layer_in.ensures
