-- `to_layer_row` meets its contract. Assumes nothing.
use Rattle.laws.proofs.Prelude.{refl}
use Rattle.ffi_four_high.proofs.to_layer_row.Goals as goal

pub returns : goal.returns
returns c = rw c.fill_rule-rule.ensures refl
