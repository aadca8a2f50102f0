-- `weight_table::weights` meets its contract: one test that antt computes over all 1,024 entries. Assumes nothing.
use Rattle.laws.proofs.Prelude.{refl}
use Rattle.weight_table.proofs.Table.{is_curve}
use Rattle.weight_table.proofs.weights.Goals as goal

pub returns : goal.returns
returns c = is_curve _ refl tt
