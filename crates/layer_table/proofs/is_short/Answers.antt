-- `layer_table::is_short` meets its contract.
-- Assumes nothing.
use Rattle.std.specs.Prelude.{◌/◌}
use Rattle.laws.proofs.Prelude.{length}
use Rattle.layer_table.specs.Table.{is_table_short}
use Rattle.layer_table.proofs.Judging.{ltb_min}
use Rattle.layer_table.proofs.is_short.Goals as goal

pub returns : goal.returns
unfolding is_table_short
returns c = ltb_min (length c.args.layers.now / 8) (length c.args.colors.now / 4) c.args.count
