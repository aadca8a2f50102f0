-- `freed::is_freed` meets its contract. Assumes nothing.
use Rattle.layer_table.specs.Table.{table_of}
use Rattle.painter.proofs.Freeing.{free_next, free_end}
use Rattle.painter.proofs.freed.is_freed.Goals as goal

pub loop-i-preserved : goal.loop-i-preserved
loop-i-preserved c =
    let a = c.args in
    let n = c.next_layer-next in
    free_next a.n a.ids.now a.covers.now a.part.now (table_of a.layers.now a.colors.now a.count) a.id c.loop-i.invariant n.result
    (n.ensures.stepped a.covers.now) n.ensures.moved _ _ c.incoming_cover-cover.ensures c.freed_by-freed.ensures

pub returns : goal.returns
returns c =
    let a = c.args in
    free_end a.n a.ids.now a.covers.now a.part.now (table_of a.layers.now a.colors.now a.count) a.id c.loop-i.invariant c.loop-i-test.false
