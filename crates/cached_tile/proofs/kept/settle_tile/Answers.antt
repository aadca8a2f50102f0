-- `cached_tile::kept::settle_tile` meets its contract.
-- Assumes nothing.
use Rattle.laws.proofs.Prelude.{refl}
use Rattle.cached_tile.proofs.kept.settle_tile.Goals as goal

pub returns : goal.returns
returns c =
    let updated = c.update_solid_color-updated.ensures in
    record {
      settlement = rw (c.same_bytes.ensures, updated.previous) at c.keep_or_write-settlement.ensures;
      kept = rw updated.tile refl;
    }
