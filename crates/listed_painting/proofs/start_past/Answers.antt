-- `start_past` meets its contract: the layers are passed one after the other. Assumes nothing.
use Rattle.layer_table.specs.Table.{table_of}
use Rattle.listed_painting.proofs.start_past.Goals as goal

pub loop-init : goal.loop-init
loop-init c =
    let a = c.args in
    let s = c.start-at.ensures.starts (table_of a.layers.now a.colors.now a.count) a.n a.ids.now a.covers.now a.part.now in
    (s.holds, s.past, s.no_clip)
