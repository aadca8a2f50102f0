use Rattle.layer_listing.proofs.Writing.{write_next, write_end}
use Rattle.layer_listing.proofs.write_layers.Goals as goal

pub loop-i-preserved : goal.loop-i-preserved
loop-i-preserved c =
    let n = c.next_layer-next in
    write_next c.args.n c.args.ids.now c.args.covers.now c.args.part.now c.args.list_ids.now c.args.list_covers.now c.args.list_flags.now c.requires.2 c.requires.1
    c.loop-i.invariant n.result (n.ensures.stepped c.args.covers.now) n.ensures.moved _ _ c.incoming_cover.ensures c.write_cover.ensures

pub returns : goal.returns
returns c =
    write_end c.args.n c.args.ids.now c.args.covers.now c.args.part.now c.args.list_ids.now c.args.list_covers.now c.args.list_flags.now c.requires.2 c.requires.1 c.loop-i.invariant c.loop-i-test.false
