-- `cached_tile::CachedTile::update_layer_count` meets its contract.
-- Assumes nothing.
use Rattle.std.specs.Prelude.{Option}
use Rattle.laws.proofs.Prelude.{sym, ap, ◌∙◌, ℕ}
use Rattle.cached_tile.specs.Tile.{update_count}
use Rattle.cached_tile.proofs.CachedTile.update_layer_count.Goals as goal

pub returns-in-Some : goal.returns-in-Some
returns-in-Some c =
    record {
      previous = c.layer_count-previous.ensures;
      tile = c.keep_layer_count-tile.ensures ∙ sym (ap (λ (n : Option ℕ). update_count c.args.self n) c.in-Some.is);
    }

pub returns-in-None : goal.returns-in-None
returns-in-None c =
    record {
      previous = c.layer_count-previous.ensures;
      tile = c.drop_layer_count-tile.ensures ∙ sym (ap (λ (n : Option ℕ). update_count c.args.self n) c.in-None.is);
    }
