-- `marks::is_changed` meets its contract. Assumes nothing.
use Rattle.laws.proofs.Prelude.{arith}
use Rattle.layer_table.specs.Table.{table_of}
use Rattle.layer_table.proofs.Looking.{at_place, at_none}
use Rattle.layer_listing.proofs.Marking.{changed_found, changed_missing}
use Rattle.layer_listing.proofs.marks.is_changed.Goals as goal

pub layer_at-layer-requires : goal.layer_at-layer-requires
layer_at-layer-requires c =
    let found = at_place {floats = c.args.colors.now} c.in-Some.is c.find_from.ensures c.requires.ascending in
    omega (arith, found.within, c.requires.words_long, c.requires.floats_long)

pub returns-in-Some : goal.returns-in-Some
returns-in-Some c =
    let found = at_place {floats = c.args.colors.now} c.in-Some.is c.find_from.ensures c.requires.ascending in
    changed_found (table_of c.args.layers.now c.args.colors.now c.args.count) c.args.id c.layer_at-layer.ensures found.looked

pub returns-in-None : goal.returns-in-None
returns-in-None c =
    changed_missing (table_of c.args.layers.now c.args.colors.now c.args.count) c.args.id
    (at_none {floats = c.args.colors.now} c.in-None.is c.find_from.ensures).looked
