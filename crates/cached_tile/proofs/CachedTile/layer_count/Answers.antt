-- `cached_tile::CachedTile::layer_count` meets its contract.
-- Assumes nothing.
use Rattle.laws.proofs.Prelude.{refl, sym, ◌∙◌}
use Rattle.cached_tile.proofs.CachedTile.layer_count.Goals as goal

pub returns-then-keeps_count : goal.returns-then-keeps_count
returns-then-keeps_count c =
    rw (sym c.keeps_count.ensures ∙ c.if-keeps_count.true, c.wide-3.ensures.0, c.wide-2.ensures.0, c.wide.ensures.0) refl

pub returns-else-keeps_count : goal.returns-else-keeps_count
returns-else-keeps_count c = rw (sym c.keeps_count.ensures ∙ c.if-keeps_count.false) refl
