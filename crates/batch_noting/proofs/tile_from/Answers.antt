-- `tile_from` meets its contract. Assumes nothing.
use Rattle.laws.proofs.Prelude.{rules}
use Rattle.batch_noting.proofs.tile_from.Goals as goal

pub bounds-bytes-0 : goal.bounds-bytes-0
bounds-bytes-0 c = search rules

pub bounds-bytes-1 : goal.bounds-bytes-1
bounds-bytes-1 c = search rules

pub bounds-bytes-2 : goal.bounds-bytes-2
bounds-bytes-2 c = search rules

pub bounds-bytes-3 : goal.bounds-bytes-3
bounds-bytes-3 c = search rules

pub bounds-bytes-4 : goal.bounds-bytes-4
bounds-bytes-4 c = search rules

pub bounds-bytes-5 : goal.bounds-bytes-5
bounds-bytes-5 c = search rules

pub bounds-bytes-6 : goal.bounds-bytes-6
bounds-bytes-6 c = search rules

pub bounds-bytes-7 : goal.bounds-bytes-7
bounds-bytes-7 c = search rules

pub to_tile-requires : goal.to_tile-requires
to_tile-requires c = search rules

pub returns : goal.returns
returns c = rw c.to_tile.ensures
