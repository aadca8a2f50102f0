-- `layer_table::layer_at` meets its contract.
-- Assumes nothing.
use Rattle.laws.proofs.Prelude.{ap₂, ◌∙◌}
use Rattle.layer_table.specs.Record.{layer_of}
use Rattle.layer_table.specs.Table.{layer_at}
use Rattle.layer_table.proofs.layer_at.Goals as goal

pub returns : goal.returns
unfolding layer_at
returns c = c.to_layer.ensures ∙ ap₂ layer_of c.words_at.ensures c.color_at.ensures
