-- `pass_over` meets its contract. Assumes nothing.
use Rattle.laws.proofs.Prelude.{sym, ap, ◌∙◌, arith, given}
use Rattle.layer_table.specs.Table.{table_of}
use Rattle.layer_table.proofs.Looking.{at_place, at_none}
use Rattle.listed_painting.proofs.Walks.{more, over_known, over_missing}
use Rattle.listed_painting.proofs.pass_over.Goals as goal

pub next_layer-next-requires : goal.next_layer-next-requires
next_layer-next-requires c =
    let a = c.args in
    let h = c.requires.1 in
    (c.requires.0.walks, h.carries_in, h.segments_in, more (table_of a.layers.now a.colors.now a.count) a.n a.ids.now a.covers.now a.part.now h c.requires.2)

pub layer_at-layer-requires : goal.layer_at-layer-requires
layer_at-layer-requires c =
    let t = c.requires.0.in_table in
    let found = at_place {floats = c.args.colors.now} c.in-Some.is c.find_from.ensures t.ascending in
    omega (arith, found.within, t.words_long, t.floats_long)

pub overflow_add-p : goal.overflow_add-p
overflow_add-p c =
    let found = at_place {floats = c.args.colors.now} c.in-Some.is c.find_from.ensures c.requires.0.in_table.ascending in
    omega (arith, found.within, c.ranges.count)

pub returns-in-Some : goal.returns-in-Some
returns-in-Some c =
    let a = c.args in
    let n = c.next_layer-next in
    let found = at_place {floats = a.colors.now} c.in-Some.is c.find_from.ensures c.requires.0.in_table.ascending in
    over_known (table_of a.layers.now a.colors.now a.count) a.n a.ids.now a.covers.now a.part.now c.requires.1 n.result (n.ensures.stepped a.covers.now) n.ensures.moved
    c.step.ensures (found.looked ∙ ap given (sym c.layer_at-layer.ensures)) c.incoming_cover-cover.ensures c.free_after-free_below.ensures

pub returns-in-None : goal.returns-in-None
returns-in-None c =
    let a = c.args in
    let n = c.next_layer-next in
    let missing = at_none {floats = a.colors.now} c.in-None.is c.find_from.ensures in
    over_missing (table_of a.layers.now a.colors.now a.count) a.n a.ids.now a.covers.now a.part.now c.requires.1 n.result (n.ensures.stepped a.covers.now) n.ensures.moved c.step-in-None.ensures missing.looked
