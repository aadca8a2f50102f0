-- `queue::is_short` meets its contract. Assumes nothing.
use Rattle.std.specs.Prelude.{◌/◌}
use Rattle.laws.proofs.Prelude.{length}
use Rattle.layer_table.proofs.Judging.{ltb_min}
use Rattle.queue.proofs.is_short.Goals as goal

pub returns : goal.returns
returns c = ltb_min (length c.args.ids.now) (length c.args.covers.now / 16) 256
