-- `walk::incoming_cover` meets its contract. Assumes nothing.

use Rattle.tile_layers.proofs.walk.incoming_cover.Goals as goal

pub read_cover-requires : goal.read_cover-requires
read_cover-requires c = c.requires c.if-carried.true

pub returns-then-carried : goal.returns-then-carried
returns-then-carried c = rw c.if-carried.true c.read_cover.ensures

pub returns-else-carried : goal.returns-else-carried
returns-else-carried c = rw c.if-carried.false
