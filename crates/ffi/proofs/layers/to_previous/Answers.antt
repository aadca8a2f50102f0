-- `layers::to_previous` meets its contract. Assumes nothing.
use Rattle.std.specs.Prelude.{Some}
use Rattle.laws.proofs.Prelude.{ap}
use Rattle.ffi.proofs.layers.to_previous.Goals as goal

pub returns-then-given : goal.returns-then-given
returns-then-given c = rw c.if-given.true (ap Some c.to_color.ensures)
