-- `walk::is_carry_due` meets its contract. Assumes nothing.
use Rattle.laws.proofs.Prelude.{lt-ltb, le-ltb}
use Rattle.tile_layers.proofs.walk.is_carry_due.Goals as goal

pub returns-then-i-n : goal.returns-then-i-n
returns-then-i-n c = rw (lt-ltb _ _ c.if-i-n.true)

pub returns-else-i-n : goal.returns-else-i-n
returns-else-i-n c = rw (le-ltb _ _ c.if-i-n.false)
