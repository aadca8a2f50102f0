-- `cached_tile::kept::Kept::update_layer_count` meets its contract.
-- Assumes nothing.
use Rattle.laws.proofs.Prelude.{refl}
use Rattle.cached_tile.proofs.kept.Kept.update_layer_count.Goals as goal

pub returns-then-self : goal.returns-then-self
returns-then-self c =
    record {
      previous = rw c.if-self.true c.update_layer_count-updated.ensures.previous;
      kept = rw (c.if-self.true, c.update_layer_count-updated.ensures.tile) refl;
    }
