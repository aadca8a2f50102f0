-- `keep_or_drop` meets its contract. Assumes nothing.
use Rattle.laws.proofs.Prelude.{refl}
use Rattle.kept_count.proofs.keep_or_drop.Goals as goal

pub returns-then-may : goal.returns-then-may
returns-then-may c = rw c.if-may.true refl

pub returns-else-may : goal.returns-else-may
returns-else-may c = rw (c.if-may.false, c.drop_count-dropped.ensures) refl
