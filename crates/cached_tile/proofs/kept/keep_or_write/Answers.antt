-- `cached_tile::kept::keep_or_write` meets its contract.
-- Assumes nothing.
use Rattle.laws.proofs.Prelude.{refl}
use Rattle.cached_tile.proofs.kept.keep_or_write.Goals as goal

pub returns-then-is_same : goal.returns-then-is_same
returns-then-is_same c = rw c.if-is_same.true refl

pub returns-else-is_same : goal.returns-else-is_same
returns-else-is_same c = rw c.if-is_same.false refl
