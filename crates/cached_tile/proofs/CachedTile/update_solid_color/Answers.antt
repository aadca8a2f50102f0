-- `cached_tile::CachedTile::update_solid_color` meets its contract.
-- Assumes nothing.
use Rattle.cached_tile.proofs.CachedTile.update_solid_color.Goals as goal

pub returns-then-solid_color : goal.returns-then-solid_color
returns-then-solid_color c =
    record {
      previous = c.solid_color-previous.ensures;
      tile = rw c.if-solid_color.true c.keep_solid_color-tile.ensures;
    }

pub returns-else-solid_color : goal.returns-else-solid_color
returns-else-solid_color c =
    record {
      previous = c.solid_color-previous.ensures;
      tile = rw c.if-solid_color.false c.drop_solid_color-tile.ensures;
    }
