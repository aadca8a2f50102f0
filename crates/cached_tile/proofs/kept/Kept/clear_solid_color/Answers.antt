-- `cached_tile::kept::Kept::clear_solid_color` meets its contract.
-- Assumes nothing.
use Rattle.laws.proofs.Prelude.{refl}
use Rattle.cached_tile.proofs.kept.Kept.clear_solid_color.Goals as goal

pub returns-then-self : goal.returns-then-self
returns-then-self c = rw (c.if-self.true, c.update_solid_color-updated.ensures.tile) refl
