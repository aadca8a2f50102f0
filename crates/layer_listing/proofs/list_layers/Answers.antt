-- `list_layers` meets its contract. Assumes nothing.
use Rattle.layer_table.specs.Table.{table_of}
use Rattle.queue_statements.specs.Queue.{queue_of}
use Rattle.tile_layers.specs.Listing.{layers_in}
use Rattle.layer_listing.proofs.Marking.{listed}
use Rattle.layer_listing.proofs.list_layers.Goals as goal

pub returns : goal.returns
returns c =
    let a = c.args in
    listed (table_of a.layers.now a.colors.now a.count) (layers_in (queue_of a.n a.ids.now a.covers.now) a.part.now) c.requires.4
    c.write_layers.ensures c.mark_changed.ensures
