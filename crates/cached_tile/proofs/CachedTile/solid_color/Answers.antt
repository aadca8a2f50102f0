-- `cached_tile::CachedTile::solid_color` meets its contract.
-- Assumes nothing.
use Rattle.laws.proofs.Prelude.{refl}
use Rattle.cached_tile.proofs.CachedTile.solid_color.Goals as goal

pub returns : goal.returns
returns c = rw c.keeps_color.ensures refl
