-- `write_tile` meets its contract. Assumes nothing.
use Rattle.laws.proofs.Prelude.{arith}
use Rattle.layer_table.specs.Table.{table_of}
use Rattle.queue_statements.specs.Queue.{queue_of}
use Rattle.tile_layers.specs.Listing.{layers_in}
use Rattle.layer_carrying.proofs.Handing.{holds_back, hands_on}
use Rattle.tile_listing.proofs.write_tile.Goals as goal

pub list_layers-requires : goal.list_layers-requires
list_layers-requires c =
    (c.requires.0, c.requires.1, c.requires.2, record { ids_long = omega (arith, c.requires.3, c.requires.5); covers_long = omega (arith, c.requires.3, c.requires.5); flags_long = omega (arith, c.requires.3, c.requires.5) }, c.requires.6)

pub hand_on-requires : goal.hand_on-requires
hand_on-requires c = (
  record { ids_long = omega (arith, c.requires.3, c.requires.5, c.requires.6, c.list_layers.auto); covers_long = omega (arith, c.requires.5, c.requires.6) },
  c.requires.2,
  record { ids_long = omega (arith, c.requires.3, c.requires.5, c.requires.6); covers_long = omega (arith, c.requires.3, c.requires.5, c.requires.6) },
)

pub returns : goal.returns
returns c =
    let a = c.args in
    let ls = layers_in (queue_of a.n a.ids.now a.covers.now) a.part.now in
    let lists = c.list_layers.ensures in
    record {
      list = lists;
      queue = hands_on (table_of a.layers.now a.colors.now a.count) ls (holds_back ls a.list_ids.now c.requires.6 lists.ids_are c.requires.4) c.hand_on.ensures;
    }
