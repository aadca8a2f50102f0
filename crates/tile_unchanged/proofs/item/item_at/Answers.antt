-- `tile_unchanged::item::item_at` meets its contract. Assumes nothing.
use Rattle.laws.proofs.Prelude.{sym, ◌∙◌, arith}
use Rattle.layer_table.specs.Table.{table_of}
use Rattle.layer_table.proofs.Looking.{at_place, at_none}
use Rattle.pass_statements.specs.Entry.{entry_at}
use Rattle.pass_statements.proofs.Listing.{cover_entry_lem, item_found, item_missing}
use Rattle.tile_unchanged.proofs.item.item_at.Goals as goal

pub layer_at-layer-requires : goal.layer_at-layer-requires
layer_at-layer-requires c =
    let found = at_place {floats = c.args.colors.now} c.in-Some.is c.find_from.ensures c.requires.1.ascending in
    omega (arith, found.within, c.requires.1.words_long, c.requires.1.floats_long)

pub returns-in-Some : goal.returns-in-Some
returns-in-Some c =
    let found = at_place {floats = c.args.colors.now} c.in-Some.is c.find_from.ensures c.requires.1.ascending in
    item_found (table_of c.args.layers.now c.args.colors.now c.args.count)
    (entry_at c.args.ids.now c.args.covers.now c.args.flags.now c.args.i.0)
    c.item_for.ensures
    c.layer_at-layer.ensures
    (c.read_cover.ensures ∙ sym (cover_entry_lem c.args.covers.now c.args.i.0 (omega (arith, c.requires.0.covers_long, c.requires.2))))
    found.looked

pub returns-in-None : goal.returns-in-None
returns-in-None c =
    let found = at_none {floats = c.args.colors.now} c.in-None.is c.find_from.ensures in
    item_missing (table_of c.args.layers.now c.args.colors.now c.args.count)
    (entry_at c.args.ids.now c.args.covers.now c.args.flags.now c.args.i.0)
    found.looked
