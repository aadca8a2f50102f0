-- `tally_shown` meets its contract. Assumes nothing.
use Rattle.layer_table.specs.Table.{table_of}
use Rattle.shown_layers.proofs.Painting.{not_painted}
use Rattle.shown_layers.proofs.tally_shown.Goals as goal

pub returns-else-paints : goal.returns-else-paints
returns-else-paints c =
    let a = c.args in
    not_painted (table_of a.layers.now a.colors.now a.count) a.n a.ids.now a.covers.now a.part.now a.list_unmasked.now a.skipped a.listed c.if-paints.false (c.start-walk.ensures.starts (table_of a.layers.now a.colors.now a.count) a.n a.ids.now a.covers.now a.part.now) c.count_shown-shown.ensures c.requires.1.all
