-- `listing::survey_layers` meets its contract. Assumes nothing.
use Rattle.layer_table.specs.Table.{table_of}
use Rattle.layer_listing.proofs.Surveying.{survey_next, survey_end}
use Rattle.layer_listing.proofs.survey_layers.Goals as goal

pub loop-i-preserved : goal.loop-i-preserved
loop-i-preserved c =
    let a = c.args in
    let n = c.next_layer-next in
    let k = c.keep_carry in
    survey_next a.n a.ids.now a.covers.now a.part.now (table_of a.layers.now a.colors.now a.count) a.sums.now c.loop-i.invariant n.result
    (n.ensures.stepped a.covers.now) n.ensures.moved _ _ _ _ c.is_known-known.ensures c.incoming_cover-cover.ensures c.carry-carried.ensures k.ensures k.auto.sums

pub returns : goal.returns
returns c =
    let a = c.args in
    survey_end a.n a.ids.now a.covers.now a.part.now (table_of a.layers.now a.colors.now a.count) a.sums.now c.loop-i.invariant c.loop-i-test.false
