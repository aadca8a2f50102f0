-- `tile_unchanged::item::item_for` meets its contract. Assumes nothing.
use Rattle.tile_unchanged.proofs.item.item_for.Goals as goal

pub returns : goal.returns
returns c = rw c.is_full.ensures
