-- `cached_tile::kept::Kept::absent` meets its contract.
-- Assumes nothing.
use Rattle.laws.proofs.Prelude.{refl}
use Rattle.cached_tile.proofs.kept.Kept.absent.Goals as goal

pub returns : goal.returns
returns c = rw c.default.ensures refl
