-- `layer_table::to_layer` meets its contract.
-- Assumes nothing.
use Rattle.laws.proofs.Prelude.{refl}
use Rattle.layer_table.proofs.to_layer.Goals as goal

pub returns : goal.returns
returns c = rw (c.to_func-func.ensures, c.fill_rule-fill_rule.ensures) refl
